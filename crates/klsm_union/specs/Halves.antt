-- What a worker owes.
use Rattle.std.specs.Prelude.{◌≡◌, ◌++◌, List}
use Rattle.std.specs.declared.sync.Arc.{Arc}
use Rattle.std.specs.Arc.{arc_value}
use Rattle.klsm_run.specs.declared.item.Item.{Item}
use Rattle.klsm_run.specs.Stores.{HeapState}
use Rattle.klsm_run.specs.Content.{sorted}
use Rattle.klsm_union.specs.declared.halves.Halves.{Halves}

module _ {A : Type 0} where
  -- the items of both runs, in order
  abbrev pub owed_items : Halves A → List Item
  owed_items halves = sorted (halves.left.value ++ halves.right.value)

  abbrev pub IsUnionOf : Halves A → Arc HeapState A → Type 0
  IsUnionOf halves run = (arc_value run).items ≡ owed_items halves
