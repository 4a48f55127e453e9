use Rattle.klsm_parts.proofs.RefilledLemmas.{refilled_go_early}
use Rattle.klsm_parts.proofs.laws.refilled_may_go_early.Goals as goal

pub returns : goal.returns
returns c = refilled_go_early
