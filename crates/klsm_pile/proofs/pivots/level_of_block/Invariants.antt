use Rattle.std.proofs.Common.{◌≡◌, ◌<◌, ◌≤◌, List, [], length, slice_index_or}
use Rattle.klsm_pile.specs.Piece.{PieceState}
use Rattle.klsm_pile.specs.Pieces.{blocks_below}
use Rattle.klsm_pile.specs.Counting.{AreCounts}
use Rattle.klsm_pile.proofs.pivots.level_of_block.Given as goal

-- the block is one of those below
abbrev pub invariant-loop-level : goal.invariant-loop-level
invariant-loop-level l = record {
  within : l.level ≤ length l.counts;
  block : (ps : List PieceState) → AreCounts l.counts ps → slice_index_or (blocks_below (length l.counts) ps) l.index [] ≡ slice_index_or (blocks_below l.level ps) l.left [];
  there : (ps : List PieceState) → AreCounts l.counts ps → l.index < length (blocks_below (length l.counts) ps) → l.left < length (blocks_below l.level ps);
}

abbrev pub decreases-loop-level : goal.decreases-loop-level
decreases-loop-level l = l.level
