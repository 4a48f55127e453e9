-- Two runs that are to become one.
use Rattle.std.specs.Prelude.{ℕ, ◌≡◌, ◌+◌, ◌≤◌, ◌++◌, List, length, drop}
use Rattle.klsm_run.specs.declared.item.Item.{Item}
use Rattle.klsm_run.specs.Content.{sorted, ShareNone}
use Rattle.klsm_run.specs.Capacity.{heap_room}

-- the two may become one run, and are what is owed less its first items
pub record IsUnion (left right owed : List Item) : Type 0 where
  pub apart : ShareNone left right
  pub few : length left + length right ≤ heap_room
  pub gone : ℕ
  pub gone_in : gone ≤ length owed
  pub rest : sorted (left ++ right) ≡ drop gone owed
