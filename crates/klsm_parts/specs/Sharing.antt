-- What moves where a member shares: items leave its own part for the shared one, and none is inserted.
use Rattle.std.specs.Prelude.{◌≢◌, List, []}
use Rattle.klsm_run.specs.declared.item.Item.{Item}
use Rattle.klsm_run.specs.Content.{IsAscending}
use Rattle.klsm_parts.specs.Events.{IsWithin, plus, minus}

-- Share: items move from the own part to the shared one
pub record MayShare (own moved : List Item) : Type 0 where
  pub some : moved ≢ []
  pub ascending : IsAscending moved
  pub within : IsWithin moved own

-- what a Share leaves in the own part and in the shared one
abbrev pub own_after_share : List Item → List Item → List Item
own_after_share own moved = minus own moved

abbrev pub shared_after_share : List Item → List Item → List Item
shared_after_share shared moved = plus shared moved
