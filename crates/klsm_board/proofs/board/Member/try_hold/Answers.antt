use Rattle.std.proofs.Common.{rules}
use Rattle.klsm_board.proofs.board.Member.try_hold.Goals as goal

pub returns-then-lock-self-clause-no_such_lock : goal.returns-then-lock-self-clause-no_such_lock
returns-then-lock-self-clause-no_such_lock g c = search rules
