use Rattle.std.proofs.Common.{rules}
use Rattle.klsm_board.proofs.board.Board.new.Goals as goal

pub returns-then-threads-eq0-clause-bad_threads : goal.returns-then-threads-eq0-clause-bad_threads
returns-then-threads-eq0-clause-bad_threads g c = search rules

pub returns-then-threads-eq0-clause-bad_k : goal.returns-then-threads-eq0-clause-bad_k
returns-then-threads-eq0-clause-bad_k g c = search rules

pub returns-in-Ok-clause-sizes : goal.returns-in-Ok-clause-sizes
returns-in-Ok-clause-sizes g c = c.in-Ok.ensures.sizes

pub returns-in-Ok-clause-bad_threads : goal.returns-in-Ok-clause-bad_threads
returns-in-Ok-clause-bad_threads g c = search rules
