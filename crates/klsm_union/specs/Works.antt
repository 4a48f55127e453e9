-- Work that is under way.
use Rattle.std.specs.Prelude.{ℕ, ◌≡◌, ◌+◌, ◌≤◌, ◌++◌, List, [], length, Option, Some, None}
use Rattle.klsm_run.specs.declared.item.Item.{Item}
use Rattle.klsm_run.specs.Stores.{HeapState}
use Rattle.klsm_run.specs.Content.{sorted, IsAscending}
use Rattle.klsm_run.specs.Capacity.{heap_room}

-- what is united so far
abbrev pub united_items : Option HeapState → List Item
united_items None = []
united_items (Some run) = run.items

-- for how many items there is room
abbrev pub united_room : Option HeapState → ℕ
united_room None = heap_room
united_room (Some run) = run.capacity

-- what is united and what is left of both are what is owed, and there is room for it
pub record IsWork (both : Option HeapState) (left right owed : List Item) : Type 0 where
  pub owes : united_items both ++ sorted (left ++ right) ≡ owed
  pub ascending : IsAscending owed
  pub room : length (united_items both) + length left + length right ≤ united_room both
