use Rattle.std.proofs.Common.{rules}
use Rattle.klsm_parts.proofs.choice.ChoicePicker.pick.Goals as goal

pub returns-in-Last-clause-picked : goal.returns-in-Last-clause-picked
returns-in-Last-clause-picked c = search rules
