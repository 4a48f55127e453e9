use Rattle.std.proofs.Common.{rules}
use Rattle.klsm_board.proofs.board.Member.next_item.Goals as goal

pub returns : goal.returns
returns g c = search rules
