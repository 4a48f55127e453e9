use Rattle.std.proofs.Common.{rules}
use Rattle.klsm_parts.proofs.SharedLemmas.{candidate_near, candidate_is}
use Rattle.klsm_parts.proofs.shared.Shared.remove.Goals as goal

pub remove-requires : goal.remove-requires
remove-requires g c = (search rules, candidate_near g.row.LEVELS c.self.inside.k c.args.rank c.self.inside.pile _ c.self.invariant c.self.view_is c.requires)

pub returns-clause-item : goal.returns-clause-item
returns-clause-item g c = candidate_is c.self.inside.k c.args.rank c.self.inside.pile _ _ c.self.view_is c.requires c.remove.ensures.item
