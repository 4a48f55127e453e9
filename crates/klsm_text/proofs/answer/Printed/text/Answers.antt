use Rattle.std.proofs.Common.{rules}
use Rattle.klsm_text.proofs.answer.Printed.text.Goals as goal

pub returns-clause-text : goal.returns-clause-text
returns-clause-text c = search rules
