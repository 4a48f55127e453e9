use Rattle.std.proofs.Common.{rules}
use Rattle.klsm_board.proofs.klsm_parts++shared++Shared+Destruct.drop.Goals as goal

pub drop-requires : goal.drop-requires
drop-requires g c = search rules
