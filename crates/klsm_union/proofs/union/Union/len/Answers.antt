use Rattle.std.proofs.Common.{ap, length, arith}
use Rattle.klsm_union.proofs.UnionLemmas.{length_both}
use Rattle.klsm_union.proofs.union.Union.len.Goals as goal

pub returns-clause-len : goal.returns-clause-len
returns-clause-len g c = omega (arith, c.len.ensures.len, c.len-2.ensures.len, length_both c.self.inside.left c.self.inside.right, ap length c.self.view_is)

pub returns-clause-room : goal.returns-clause-room
returns-clause-room g c = omega (arith, c.self.invariant.few, length_both c.self.inside.left c.self.inside.right, ap length c.self.view_is)
