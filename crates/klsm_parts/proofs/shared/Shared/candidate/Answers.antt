use Rattle.std.proofs.Common.{rules}
use Rattle.klsm_parts.proofs.SharedLemmas.{candidate_near, candidate_is}
use Rattle.klsm_parts.proofs.shared.Shared.candidate.Goals as goal

pub item-requires : goal.item-requires
item-requires g c = (search rules, candidate_near g.row.LEVELS c.self.inside.k c.args.index c.self.inside.pile _ c.self.invariant c.self.view_is c.requires)

pub returns : goal.returns
returns g c = candidate_is c.self.inside.k c.args.index c.self.inside.pile _ _ c.self.view_is c.requires c.item.ensures
