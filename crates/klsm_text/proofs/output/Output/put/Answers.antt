use Rattle.std.proofs.Common.{rules}
use Rattle.klsm_text.proofs.output.Output.put.Goals as goal

pub returns : goal.returns
returns g c = search rules
