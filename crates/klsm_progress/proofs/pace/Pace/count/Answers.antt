use Rattle.std.proofs.Common.{arith}
use Rattle.klsm_progress.proofs.pace.Pace.count.Goals as goal

pub returns-then-self-eq-STRIDE-clause-one : goal.returns-then-self-eq-STRIDE-clause-one
returns-then-self-eq-STRIDE-clause-one g c = omega arith
