use Rattle.klsm_lsm.proofs.StoredLemmas.{shown}
use Rattle.klsm_lsm.proofs.lsm.Lsm.len.Goals as goal

pub returns-clause-len : goal.returns-clause-len
returns-clause-len g c = (shown c.args.self.now c.self.invariant c.self.view_is).counted

pub returns-clause-lawful : goal.returns-clause-lawful
returns-clause-lawful g c = (shown c.args.self.now c.self.invariant c.self.view_is).within.lawful

pub returns-clause-limit : goal.returns-clause-limit
returns-clause-limit g c = (shown c.args.self.now c.self.invariant c.self.view_is).within.in_limit
