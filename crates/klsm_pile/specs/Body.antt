-- What a piece has its items in.
use Rattle.std.specs.Prelude.{◌≡◌, List, [], Option, slice_get}
use Rattle.klsm_run.specs.declared.item.Item.{Item}
use Rattle.klsm_run.specs.Content.{IsAscending}
use Rattle.klsm_pile.specs.declared.body.Body.{Body}
use Rattle.klsm_pile.specs.declared.body.Body.TheVariants.{One, Two, Gone}

module _ {A : Type 0} where
  -- the items of a run, or of a union
  abbrev pub body_items : Body A → List Item
  body_items (One items) = items
  body_items (Two items) = items
  body_items Gone = []

-- the first of ascending items, if there is one
pub record IsFirst (first : Option Item) (items : List Item) : Type 0 where
  pub least : first ≡ slice_get items 0
  pub ascending : IsAscending items
