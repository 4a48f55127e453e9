use Rattle.std.proofs.Common.{rules}
use Rattle.klsm_instance.proofs.instance.Instance.len.Goals as goal

pub returns-clause-len : goal.returns-clause-len
returns-clause-len c = search rules
