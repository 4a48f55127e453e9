use Rattle.std.proofs.Common.{rules}
use Rattle.klsm_progress.proofs.terminal_line.TerminalLine.new.Goals as goal

pub returns-clause-told : goal.returns-clause-told
returns-clause-told g c = search rules
