use Rattle.klsm_board.specs.Boards.{IsOf}
use Rattle.klsm_tests.proofs.board.shared.see_shared.Given as goal

abbrev pub invariant-loop : goal.invariant-loop
invariant-loop g l = IsOf l.member l.board
