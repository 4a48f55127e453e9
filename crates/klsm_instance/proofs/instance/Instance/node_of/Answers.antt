use Rattle.std.proofs.Common.{rules}
use Rattle.klsm_instance.proofs.instance.Instance.node_of.Goals as goal

pub returns-then-taken-capacity : goal.returns-then-taken-capacity
returns-then-taken-capacity c = search rules
