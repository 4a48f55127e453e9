use Rattle.std.proofs.Common.{◌≤◌}
use Rattle.klsm_lsm.specs.Slots.{blocks_in}
use Rattle.klsm_lsm.proofs.MovingLemmas.{IsOpening}
use Rattle.klsm_lsm.proofs.settling.open_up.Given as goal

abbrev pub invariant-loop-gap : goal.invariant-loop-gap
invariant-loop-gap g l = record {
  order : l.place ≤ l.gap;
  opening : IsOpening (blocks_in g.R.Run.items l.fn.slots) (blocks_in g.R.Run.items l.slots) l.count l.gap;
}

abbrev pub decreases-loop-gap : goal.decreases-loop-gap
decreases-loop-gap g l = l.gap
