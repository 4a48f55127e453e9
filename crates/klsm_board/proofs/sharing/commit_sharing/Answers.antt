use Rattle.klsm_board.proofs.sharing.commit_sharing.Goals as goal

pub returns-clause-has : goal.returns-clause-has
returns-clause-has g c = search

pub returns-clause-list : goal.returns-clause-list
returns-clause-list g c = search
