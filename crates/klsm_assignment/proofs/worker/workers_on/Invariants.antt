use Rattle.std.proofs.Common.{All}
use Rattle.klsm_board.specs.Boards.{IsOf}
use Rattle.klsm_assignment.proofs.worker.workers_on.Given as goal

abbrev pub invariant-loop : goal.invariant-loop
invariant-loop g l = All (λ member. IsOf member l.board) l.members.items
