use Rattle.std.proofs.Common.{rules}
use Rattle.klsm_board.proofs.board.Board.k.Goals as goal

pub returns-clause-k : goal.returns-clause-k
returns-clause-k g c = search rules
