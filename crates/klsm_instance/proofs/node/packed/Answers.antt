use Rattle.std.proofs.Common.{rules}
use Rattle.klsm_instance.proofs.node.packed.Goals as goal

pub returns-clause-low : goal.returns-clause-low
returns-clause-low c = search rules
