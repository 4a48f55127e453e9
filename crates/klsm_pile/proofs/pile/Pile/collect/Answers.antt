use Rattle.std.proofs.Common.{refl, arith}
use Rattle.klsm_pile.proofs.AbsorbLemmas.{reserved_pile, reserved_shown}
use Rattle.klsm_pile.proofs.pile.Pile.collect.Goals as goal

pub invariant_of-self : goal.invariant_of-self
invariant_of-self g c =
    reserved_pile g.row.LEVELS c.self.inside.reach c.self.inside.len _ _ _ _ _ _ c.self.inside.counts.items c.self.invariant refl c.collect.ensures.same c.collect.ensures.below (omega arith)

pub returns : goal.returns
returns g c = reserved_shown g.row.LEVELS c.self.inside.reach _ _ _ _ _ refl c.collect.ensures.same c.self.view_is
