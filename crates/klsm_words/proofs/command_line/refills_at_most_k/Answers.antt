use Rattle.std.proofs.Common.{rules}
use Rattle.klsm_words.proofs.command_line.refills_at_most_k.Goals as goal

pub returns-in-Replay : goal.returns-in-Replay
returns-in-Replay c = search rules
