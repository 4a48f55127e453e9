use Rattle.std.proofs.Common.{rules}
use Rattle.klsm_parts.proofs.choice.Choice.of.Goals as goal

pub returns-in-Last : goal.returns-in-Last
returns-in-Last c = search rules
