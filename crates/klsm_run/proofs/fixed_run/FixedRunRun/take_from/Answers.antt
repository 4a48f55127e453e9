use Rattle.std.proofs.Common.{rules}
use Rattle.klsm_run.proofs.fixed_run.FixedRunRun.take_from.Goals as goal

pub invariant_of-other : goal.invariant_of-other
invariant_of-other g c = search rules

pub returns-clause-emptied : goal.returns-clause-emptied
returns-clause-emptied g c = search rules
