use Rattle.std.proofs.Common.{◌≡◌, ◌+◌, ◌≤◌, [], length, take, drop, get_or}
use Rattle.klsm_lsm.specs.Adding.{add}
use Rattle.klsm_lsm.specs.Slots.{blocks_in}
use Rattle.klsm_lsm.proofs.CarryLemmas.{IsCarrying}
use Rattle.klsm_lsm.proofs.fixed.carry.Given as goal

abbrev pub invariant-loop-at : goal.invariant-loop-at
invariant-loop-at g l = record {
  order : l.at ≤ l.last;
  len : length l.slots ≡ length l.fn.slots;
  rest : drop (l.last + 1) (blocks_in (λ run. run) l.slots) ≡ drop (l.last + 1) (blocks_in (λ run. run) l.fn.slots);
  carrying : IsCarrying g.row.CAP (take l.last (blocks_in (λ run. run) l.fn.slots)) (blocks_in (λ run. run) l.slots) l.at (add (take l.last (blocks_in (λ run. run) l.fn.slots)) (get_or (blocks_in (λ run. run) l.fn.slots) l.last []));
}

abbrev pub decreases-loop-at : goal.decreases-loop-at
decreases-loop-at g l = l.at
