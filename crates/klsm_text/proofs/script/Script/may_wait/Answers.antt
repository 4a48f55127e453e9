use Rattle.std.proofs.Common.{rules}
use Rattle.klsm_text.proofs.script.Script.may_wait.Goals as goal

pub returns : goal.returns
returns g c = search rules
