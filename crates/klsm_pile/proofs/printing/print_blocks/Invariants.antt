use Rattle.std.proofs.Common.{◌≤◌, length}
use Rattle.klsm_pile.proofs.printing.print_blocks.Given as goal

abbrev pub invariant-loop-level : goal.invariant-loop-level
invariant-loop-level g l = l.level ≤ length l.counts

abbrev pub decreases-loop-level : goal.decreases-loop-level
decreases-loop-level g l = l.level
