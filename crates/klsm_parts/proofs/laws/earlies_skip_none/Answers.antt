use Rattle.klsm_parts.proofs.OwnOrderLemmas.{early_skips_none}
use Rattle.klsm_parts.proofs.laws.earlies_skip_none.Goals as goal

pub returns : goal.returns
returns c = early_skips_none
