use Rattle.std.proofs.Common.{rules}
use Rattle.klsm_parts.proofs.picker.RandomPicker.pick.Goals as goal

pub returns-clause-picked : goal.returns-clause-picked
returns-clause-picked g c = search rules
