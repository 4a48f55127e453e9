use Rattle.std.proofs.Common.{refl}
use Rattle.klsm_parts.proofs.queue.item_of.Goals as goal

pub returns : goal.returns
returns g = refl
