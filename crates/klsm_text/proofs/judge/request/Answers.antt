use Rattle.std.proofs.Common.{arith, rules}
use Rattle.klsm_text.proofs.judge.request.Goals as goal

pub overflow_cast-thread : goal.overflow_cast-thread
overflow_cast-thread c = omega (arith, c.requires)

pub returns-in_err-operation : goal.returns-in_err-operation
returns-in_err-operation c = search rules

pub returns : goal.returns
returns c = search rules
