use Rattle.std.proofs.Common.{◌∙◌, ap, sym, length}
use Rattle.klsm_run.proofs.RemoveLemmas.{ascending_remove}
use Rattle.klsm_run.proofs.StoreLemmas.{heap_lent}
use Rattle.klsm_run.proofs.heap_run.HeapRunRun.remove_at.Goals as goal

pub invariant_of-self : goal.invariant_of-self
invariant_of-self g c = heap_lent _ _ _ _ _ _ (ap length (sym c.as_mut_slice.ensures.value) ∙ c.as_mut_slice.ensures.len) (c.remove_at.ensures.len ∙ ap length c.as_mut_slice.ensures.value) c.remove_at.ensures.within
    (rw (c.remove_at.ensures.rest, c.as_mut_slice.ensures.value) (ascending_remove _ _ c.self.invariant.ascending)) c.self.invariant.filled c.self.invariant.reserved c.self.invariant.at_most c.self.invariant.whole_or_power
