-- Which pieces can become one.
use Rattle.std.specs.Prelude.{ℕ, ◌≡◌, ◌<◌, List, length, slice_get, Some}
use Rattle.klsm_pile.specs.Piece.{PieceState}

-- the pieces at two places are of one block
pub record ArePartners (ps : List PieceState) (one other : ℕ) : Type 0 where
  pub order : one < other
  pub within : other < length ps
  pub levels : (p q : PieceState) → slice_get ps one ≡ Some p → slice_get ps other ≡ Some q → p.level ≡ q.level
