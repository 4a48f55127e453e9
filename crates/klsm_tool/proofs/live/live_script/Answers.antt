use Rattle.klsm_tool.proofs.NotRunLemmas.{outcome_refused}
use Rattle.klsm_tool.proofs.live.live_script.Goals as goal

pub returns-in-Err-clause-refused : goal.returns-in-Err-clause-refused
returns-in-Err-clause-refused g c = λ input read is.
    outcome_refused g.R.Read.remaining c.args.settings.now.threads input _ _ c.run_script-outcome.new.script c.run_script-outcome.result _ _ c.write_outcome-report.ensures (c.run_script-outcome.ensures.refused input read) is
