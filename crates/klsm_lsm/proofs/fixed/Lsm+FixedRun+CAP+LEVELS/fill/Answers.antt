use Rattle.std.proofs.lemmas.List.{length-map}
use Rattle.klsm_lsm.proofs.InsertLemmas.{one_stored}
use Rattle.klsm_lsm.proofs.StoredLemmas.{slotted}
use Rattle.klsm_lsm.proofs.fixed.Lsm+FixedRun+CAP+LEVELS.fill.Goals as goal

pub invariant_of-self : goal.invariant_of-self
invariant_of-self g c =
    slotted _ _ _ _ _ _ c.put_last.ensures.blocks (rw length-map c.put_last.ensures.within) (one_stored _ _ _ c.self.invariant.stored.within.levels_in_range c.requires.ascending c.requires.some c.requires.limit)
