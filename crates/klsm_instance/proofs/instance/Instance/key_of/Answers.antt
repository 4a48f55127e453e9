use Rattle.std.proofs.Common.{arith}
use Rattle.klsm_instance.proofs.instance.Instance.key_of.Goals as goal

pub returns : goal.returns
returns c = (c.bound_of-bound.result, c.bound_of-bound.ensures.exact, omega (arith, c.bound_of-bound.ensures.small))
