use Rattle.std.proofs.Common.{rules}
use Rattle.klsm_parts.proofs.FitLemmas.{field_fits, own_fits}
use Rattle.klsm_parts.proofs.queue.QueueDebug.fmt.Goals as goal

pub field-requires-room-T-Debug : goal.field-requires-room-T-Debug
field-requires-room-T-Debug g c κs within = search own_fits

pub field-requires-2-room-T-Debug : goal.field-requires-2-room-T-Debug
field-requires-2-room-T-Debug g c κs within = search field_fits
