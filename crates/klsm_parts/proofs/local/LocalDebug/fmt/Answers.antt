use Rattle.klsm_parts.proofs.FitLemmas.{first_fits, run_fits}
use Rattle.klsm_parts.proofs.local.LocalDebug.fmt.Goals as goal

pub field-requires-2-room-T-Debug : goal.field-requires-2-room-T-Debug
field-requires-2-room-T-Debug g c κs within = search first_fits

pub field-requires-2-room-T-Debug-2 : goal.field-requires-2-room-T-Debug-2
field-requires-2-room-T-Debug-2 g c κs within = search run_fits
