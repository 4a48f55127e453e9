use Rattle.std.proofs.Common.{rules}
use Rattle.klsm_tool.proofs.status.StatusTermination.report.Goals as goal

pub returns : goal.returns
returns g c = search rules
