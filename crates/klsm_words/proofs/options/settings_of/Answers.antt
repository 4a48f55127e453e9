use Rattle.std.proofs.Common.{rules}
use Rattle.klsm_words.proofs.options.settings_of.Goals as goal

pub returns-clause-settings : goal.returns-clause-settings
returns-clause-settings c = search rules
