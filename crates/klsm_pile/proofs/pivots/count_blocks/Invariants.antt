use Rattle.std.proofs.Common.{◌≡◌, ◌≤◌, List, length}
use Rattle.klsm_pile.specs.Piece.{PieceState}
use Rattle.klsm_pile.specs.Pieces.{blocks_below}
use Rattle.klsm_pile.specs.Counting.{AreCounts}
use Rattle.klsm_pile.proofs.pivots.count_blocks.Given as goal

abbrev pub invariant-loop-level : goal.invariant-loop-level
invariant-loop-level l = record {
  few : l.blocks ≤ l.level;
  blocks : (ps : List PieceState) → AreCounts l.counts ps → l.blocks ≡ length (blocks_below l.level ps);
}
