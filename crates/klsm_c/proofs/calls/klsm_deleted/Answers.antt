use Rattle.std.proofs.Common.{sym, ◌∙◌}
use Rattle.klsm_c.proofs.calls.klsm_deleted.Goals as goal

pub returns-clause-same : goal.returns-clause-same
returns-clause-same c = (rw c.in-Some.is at (c.member_mut.follows.holds c.in-Some.member.now)) ∙ sym c.in-Some.ensures.value
