-- How items of the front become pieces.
use Rattle.std.specs.Prelude.{ℕ, List, [], ◌∷◌}
use Rattle.klsm_run.specs.declared.item.Item.{Item}
use Rattle.klsm_pile.specs.Piece.{PieceState}

-- a piece of these items, if there are any
abbrev pub piece_of : ℕ → List Item → List PieceState
piece_of level [] = []
piece_of level (x ∷ xs) = record { items = x ∷ xs; level = level } ∷ []
