use Rattle.std.proofs.Common.{rules}
use Rattle.klsm_board.proofs.board.Board.quota.Goals as goal

pub returns-clause-quota : goal.returns-clause-quota
returns-clause-quota g c = search rules
