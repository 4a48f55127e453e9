use Rattle.std.proofs.Common.{rules}
use Rattle.klsm_text.proofs.stop.Stop.end.Goals as goal

pub returns-in-Refused : goal.returns-in-Refused
returns-in-Refused c = search rules
