use Rattle.klsm_board.proofs.board.Member.delete_min_alone.Goals as goal

pub returns-clause-ok : goal.returns-clause-ok
returns-clause-ok g c = c.delete.ensures.ok
