use Rattle.std.proofs.Common.{◌∙◌, ap, length}
use Rattle.klsm_run.proofs.RemoveLemmas.{ascending_remove}
use Rattle.klsm_run.proofs.StoreLemmas.{fixed_lent}
use Rattle.klsm_run.proofs.fixed_run.FixedRunRun.remove_at.Goals as goal

pub invariant_of-self : goal.invariant_of-self
invariant_of-self g c = fixed_lent g.row.CAP _ _ _ (c.remove_at.ensures.len ∙ ap length c.as_mut_slice.ensures.value) c.remove_at.ensures.within
    (rw (c.remove_at.ensures.rest, c.as_mut_slice.ensures.value) (ascending_remove _ _ c.self.invariant.ascending)) c.self.invariant.full c.self.invariant.capacity_in_range
