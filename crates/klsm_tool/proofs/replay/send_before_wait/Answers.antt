use Rattle.klsm_tool.proofs.TellingLemmas.{told_flushed}
use Rattle.klsm_tool.proofs.replay.send_before_wait.Goals as goal

pub returns-then-may_wait-clause-told : goal.returns-then-may_wait-clause-told
returns-then-may_wait-clause-told g c before lines told = told_flushed before _ _ lines c.args.output.now c.flush.new.self c.flush.result told c.flush.ensures
