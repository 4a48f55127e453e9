use Rattle.klsm_parts.proofs.EventLemmas.{take_skips_few}
use Rattle.klsm_parts.proofs.laws.takes_skip_few.Goals as goal

pub returns : goal.returns
returns c k owner own shared x taken = take_skips_few k own shared x taken.in_reach
