use Rattle.std.proofs.Common.{rules}
use Rattle.klsm_board.proofs.board.Board.refill.Goals as goal

pub returns-clause-refill : goal.returns-clause-refill
returns-clause-refill g c = search rules
