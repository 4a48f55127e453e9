use Rattle.klsm_run.proofs.run.Run.merge.Goals as goal

pub unite-requires-clause-apart : goal.unite-requires-clause-apart
unite-requires-clause-apart g c = rw c.in_ok-both.ensures.items c.requires.apart

pub returns-clause-union : goal.returns-clause-union
returns-clause-union g c = rw (← c.in_ok-both.ensures.items) c.unite.ensures.union
