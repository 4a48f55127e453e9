use Rattle.klsm_lsm.specs.Slots.{blocks_in}
use Rattle.klsm_lsm.proofs.MovingLemmas.{IsMoving}
use Rattle.klsm_lsm.proofs.slots.close_up.Given as goal

abbrev pub invariant-loop-moved : goal.invariant-loop-moved
invariant-loop-moved g l = IsMoving (blocks_in g.R.Run.items l.fn.slots) (blocks_in g.R.Run.items l.slots) l.from l.to l.moved
