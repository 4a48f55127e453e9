use Rattle.std.proofs.Common.{refl}
use Rattle.klsm_parts.proofs.picker.FirstPicker.pick.Goals as goal

pub returns-clause-picked : goal.returns-clause-picked
returns-clause-picked g = refl
