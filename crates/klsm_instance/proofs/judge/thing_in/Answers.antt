use Rattle.std.proofs.Common.{rules}
use Rattle.klsm_instance.proofs.judge.thing_in.Goals as goal

pub returns-clause-thing : goal.returns-clause-thing
returns-clause-thing c = search rules

pub returns-clause-in_range : goal.returns-clause-in_range
returns-clause-in_range c = search rules
