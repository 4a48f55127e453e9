use Rattle.std.proofs.Common.{rules}
use Rattle.klsm_text.proofs.stop.Closing.text.Goals as goal

pub returns-in-AtEnd-clause-text : goal.returns-in-AtEnd-clause-text
returns-in-AtEnd-clause-text c = search rules
