use Rattle.std.proofs.Common.{rules}
use Rattle.klsm_c.proofs.closing.klsm_close_into.Goals as goal

pub invariant_of-queue : goal.invariant_of-queue
invariant_of-queue c = record { whole = c.close_slots.ensures.whole }

pub returns-in-Err-NotOpen-clause-not_open : goal.returns-in-Err-NotOpen-clause-not_open
returns-in-Err-NotOpen-clause-not_open c = search rules
