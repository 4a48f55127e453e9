use Rattle.std.proofs.Common.{◌≡◌, ◌≤◌, ◌++◌, length}
use Rattle.klsm_pile.specs.Pieces.{blocks_below}
use Rattle.klsm_pile.specs.Front.{parts}
use Rattle.klsm_pile.proofs.copying.copy_blocks.Given as goal

-- the blocks that are copied and those of the levels below are all
abbrev pub invariant-loop-level : goal.invariant-loop-level
invariant-loop-level g l = record {
  within : l.level ≤ length l.counts;
  blocks : l.lsm ++ blocks_below l.level (parts l.front.items l.pieces) ≡ blocks_below g.row.LEVELS (parts l.front.items l.pieces);
}

abbrev pub decreases-loop-level : goal.decreases-loop-level
decreases-loop-level g l = l.level
