use Rattle.std.proofs.Common.{rules}
use Rattle.klsm_tool.proofs.live.gave_up_of.Goals as goal

pub returns-in-Some : goal.returns-in-Some
returns-in-Some c = search rules
