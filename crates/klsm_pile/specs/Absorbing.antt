-- Which items of a run go to the front.
use Rattle.std.specs.Prelude.{ℕ, ◌≤◌, List, length, take, drop}
use Rattle.std.specs.List.{AllByRecursion}
use Rattle.klsm_run.specs.declared.item.Item.{Item}
use Rattle.klsm_run.specs.ItemOrder.{IsSmaller}
use Rattle.klsm_pile.specs.declared.fetched.Fetched.{Fetched}
use Rattle.klsm_pile.specs.Piece.{PieceState}
use Rattle.klsm_pile.specs.Pieces.{every_item}
use Rattle.klsm_pile.specs.Front.{front_items}

-- the first items of a run are smaller than those of all pieces, and the others are greater than those of the front
pub record AreLow (low : ℕ) (run : List Item) (front : List Fetched) (pieces : List PieceState) : Type 0 where
  pub within : low ≤ length run
  pub smaller : AllByRecursion (λ x. AllByRecursion (IsSmaller x) (every_item pieces)) (take low run)
  pub greater : AllByRecursion (λ x. AllByRecursion (IsSmaller x) (drop low run)) (front_items front)
