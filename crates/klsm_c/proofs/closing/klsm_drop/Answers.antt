use Rattle.klsm_c.proofs.SlotLemmas.{closed_are_whole}
use Rattle.klsm_c.proofs.closing.klsm_drop.Goals as goal

pub invariant_of-queue : goal.invariant_of-queue
invariant_of-queue c = record { whole = closed_are_whole c.close_all.new.slots c.close_all.ensures }
