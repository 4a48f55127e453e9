use Rattle.klsm_parts.proofs.FitLemmas.{first_fits, run_fits}
use Rattle.klsm_parts.proofs.sharing.copy_to_share.Goals as goal

pub lsm-requires : goal.lsm-requires
lsm-requires g c = (search, (search first_fits, search run_fits))
