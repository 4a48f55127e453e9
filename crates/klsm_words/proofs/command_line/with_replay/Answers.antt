use Rattle.klsm_words.proofs.CommandLemmas.{with_one_more}
use Rattle.klsm_words.proofs.command_line.with_replay.Goals as goal

pub returns : goal.returns
returns c = with_one_more _ _ _ _ c.subcommand.result c.subcommand.ensures c.in_ok-replay.ensures.local c.bare_command.ensures c.in_ok-replay.ensures.app
