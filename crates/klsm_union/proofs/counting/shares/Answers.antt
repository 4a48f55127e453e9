use Rattle.klsm_union.proofs.HeadLemmas.{least_dropped, least_dropped_second}
use Rattle.klsm_union.proofs.counting.shares.Goals as goal

pub returns-then-leads-clause-rest : goal.returns-then-leads-clause-rest
returns-then-leads-clause-rest c = least_dropped c.args.count c.args.left.now c.args.right.now c.requires.left c.requires.right (c.leads.ensures.within c.if-leads.true) (c.leads.ensures.before c.if-leads.true)

pub returns-then-leads-2-clause-rest : goal.returns-then-leads-2-clause-rest
returns-then-leads-2-clause-rest c = least_dropped_second c.args.count c.args.left.now c.args.right.now c.requires.left c.requires.right (c.leads-2.ensures.within c.if-leads-2.true) (c.leads-2.ensures.before c.if-leads-2.true)
