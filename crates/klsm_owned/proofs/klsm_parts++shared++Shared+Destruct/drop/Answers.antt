use Rattle.std.proofs.Common.{rules}
use Rattle.klsm_owned.proofs.klsm_parts++shared++Shared+Destruct.drop.Goals as goal

pub drop-requires : goal.drop-requires
drop-requires g c = search rules
