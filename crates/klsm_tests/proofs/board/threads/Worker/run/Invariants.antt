use Rattle.klsm_board.specs.Boards.{IsOf}
use Rattle.klsm_tests.proofs.board.threads.Worker.run.Given as goal

abbrev pub invariant-loop-round : goal.invariant-loop-round
invariant-loop-round g l = IsOf l.worker.member l.board
