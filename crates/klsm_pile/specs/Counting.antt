-- How many items the levels have.
use Rattle.std.specs.Prelude.{ℕ, ◌≡◌, ◌<◌, ◌⊎◌, List, [], length, slice_index_or, Option, Some, None}
use Rattle.klsm_run.specs.Block.{HasLevel}
use Rattle.klsm_pile.specs.Piece.{PieceState}
use Rattle.klsm_pile.specs.Pieces.{at_level}

-- there is a count for each level of some pieces
abbrev pub AreCounts : List ℕ → List PieceState → Type 0
AreCounts counts ps = (l : ℕ) → l < length counts → slice_index_or counts l 0 ≡ length (at_level l ps)

-- the greatest level below one that has items, if there is one
abbrev pub IsNextBelow : List ℕ → ℕ → Option ℕ → Type 0
IsNextBelow counts level None = (l : ℕ) → l < level → slice_index_or counts l 0 ≡ 0
IsNextBelow counts level (Some next) =
    (next < level) × (0 < slice_index_or counts next 0) × ((l : ℕ) → next < l → l < level → slice_index_or counts l 0 ≡ 0)

-- each level below one has no item, or as many as a block of it
abbrev pub AreNumberedBelow : ℕ → List PieceState → Type 0
AreNumberedBelow level ps = (l : ℕ) → l < level → (at_level l ps ≡ []) ⊎ HasLevel l (length (at_level l ps))
