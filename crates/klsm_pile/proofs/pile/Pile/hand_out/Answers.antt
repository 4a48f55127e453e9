use Rattle.std.proofs.Common.{refl, arith}
use Rattle.klsm_pile.proofs.AbsorbLemmas.{pieces_distinct, pieces_few, reserved_pile, reserved_shown}
use Rattle.klsm_pile.proofs.pile.Pile.hand_out.Goals as goal

pub hand_out-requires-clause-distinct : goal.hand_out-requires-clause-distinct
hand_out-requires-clause-distinct g c = pieces_distinct g.row.LEVELS _ _ _ c.self.invariant.held

pub hand_out-requires-clause-few : goal.hand_out-requires-clause-few
hand_out-requires-clause-few g c =
    omega (arith, c.self.invariant.total, c.self.invariant.limit, pieces_few c.self.inside.front.items c.self.inside.pieces.items)

pub invariant_of-self : goal.invariant_of-self
invariant_of-self g c =
    reserved_pile g.row.LEVELS c.self.inside.reach c.self.inside.len _ _ _ _ _ _ c.self.inside.counts.items c.self.invariant refl c.hand_out.ensures.same c.hand_out.ensures.below (omega arith)

pub returns : goal.returns
returns g c = reserved_shown g.row.LEVELS c.self.inside.reach _ _ _ _ _ refl c.hand_out.ensures.same c.self.view_is
