use Rattle.std.proofs.Common.{rules}
use Rattle.klsm_run.proofs.fixed_run.FixedRun.empty.Goals as goal

pub returns : goal.returns
returns g c = search rules
