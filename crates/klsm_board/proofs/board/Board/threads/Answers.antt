use Rattle.std.proofs.Common.{rules}
use Rattle.klsm_board.proofs.board.Board.threads.Goals as goal

pub returns-clause-threads : goal.returns-clause-threads
returns-clause-threads g c = search rules
