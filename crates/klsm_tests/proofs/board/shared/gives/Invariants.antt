use Rattle.klsm_board.specs.Boards.{IsOf}
use Rattle.klsm_tests.proofs.board.shared.gives.Given as goal

abbrev pub invariant-loop-key : goal.invariant-loop-key
invariant-loop-key g l = IsOf l.member l.board
