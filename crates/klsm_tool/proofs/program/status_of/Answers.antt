use Rattle.std.proofs.Common.{rules}
use Rattle.klsm_tool.proofs.program.status_of.Goals as goal

pub returns : goal.returns
returns c = search rules
