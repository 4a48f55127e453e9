use Rattle.std.proofs.Common.{rules}
use Rattle.klsm_lsm.proofs.places.comes_before.Goals as goal

pub returns : goal.returns
returns c = search rules
