use Rattle.std.proofs.Common.{rules, length}
use Rattle.klsm_parts.proofs.SharedLemmas.{candidates_near}
use Rattle.klsm_parts.proofs.shared.Shared.take_least.Goals as goal

pub take_least-requires : goal.take_least-requires
take_least-requires g c = (search rules, (c.requires.some, candidates_near g.row.LEVELS c.self.inside.k (length c.args.places.now) c.self.inside.pile _ c.self.invariant c.self.view_is c.requires.there))
