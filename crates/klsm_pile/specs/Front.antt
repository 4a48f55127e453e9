-- The front: the least items, which lie in no piece, and are counted to their blocks as if each were a piece of its own.
use Rattle.std.specs.Prelude.{ℕ, List, [], ◌∷◌, ◌++◌}
use Rattle.std.specs.List.{AllByRecursion}
use Rattle.klsm_run.specs.declared.item.Item.{Item}
use Rattle.klsm_run.specs.ItemOrder.{IsSmaller}
use Rattle.klsm_run.specs.Content.{IsAscending}
use Rattle.klsm_pile.specs.declared.fetched.Fetched.{Fetched}
use Rattle.klsm_pile.specs.Piece.{PieceState}
use Rattle.klsm_pile.specs.Pieces.{every_item}

-- an item of the front as a piece
abbrev pub single : Fetched → PieceState
single f = record { items = f.item ∷ []; level = f.level }

-- the front as pieces
abbrev pub singles : List Fetched → List PieceState
singles [] = []
singles (f ∷ fs) = single f ∷ singles fs

-- the front and the pieces
abbrev pub parts : List Fetched → List PieceState → List PieceState
parts front ps = singles front ++ ps

-- the items of a piece, in the front
abbrev pub fetched : ℕ → List Item → List Fetched
fetched l [] = []
fetched l (x ∷ xs) = record { item = x; level = l } ∷ fetched l xs

-- the items of the front
abbrev pub front_items : List Fetched → List Item
front_items [] = []
front_items (f ∷ fs) = f.item ∷ front_items fs

-- the front is in order, and each of its items is smaller than all of the pieces
pub record IsFront (front : List Fetched) (ps : List PieceState) : Type 0 where
  pub ascending : IsAscending (front_items front)
  pub least : AllByRecursion (λ x. AllByRecursion (IsSmaller x) (every_item ps)) (front_items front)
