use Rattle.std.proofs.Common.{rules}
use Rattle.klsm_words.proofs.command_line.over_scripts.Goals as goal

pub returns-in_default-clause-action : goal.returns-in_default-clause-action
returns-in_default-clause-action c = search rules
