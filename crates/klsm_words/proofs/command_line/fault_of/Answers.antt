use Rattle.std.proofs.Common.{rules}
use Rattle.klsm_words.proofs.command_line.fault_of.Goals as goal

pub returns-in-Ok-clause-fault : goal.returns-in-Ok-clause-fault
returns-in-Ok-clause-fault c = search rules
