use Rattle.std.proofs.Common.{arith}
use Rattle.klsm_pile.proofs.printing.print_blocks.Goals as goal

pub bounds-counts-level : goal.bounds-counts-level
bounds-counts-level g c = omega (arith, c.loop-level-test.true, c.loop-level.invariant)
