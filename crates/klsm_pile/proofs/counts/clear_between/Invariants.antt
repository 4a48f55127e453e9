use Rattle.std.proofs.Common.{ℕ, List, ◌≡◌, ◌<◌, ◌≤◌, ◌⊎◌, length, slice_index_or}
use Rattle.klsm_pile.specs.Piece.{PieceState}
use Rattle.klsm_pile.specs.Pieces.{items_between}
use Rattle.klsm_pile.specs.Counting.{AreCounts}
use Rattle.klsm_pile.proofs.counts.clear_between.Given as goal

abbrev pub invariant-loop-level : goal.invariant-loop-level
invariant-loop-level l = record {
  order : l.low ≤ l.level;
  sum : (ps : List PieceState) → AreCounts l.fn.counts ps → l.sum ≡ length (items_between l.low l.level ps);
  cleared : (k : ℕ) → l.low ≤ k → k < l.level → slice_index_or l.counts k 0 ≡ 0;
  kept : (k : ℕ) → (k < l.low) ⊎ (l.level ≤ k) → slice_index_or l.counts k 0 ≡ slice_index_or l.fn.counts k 0;
}
