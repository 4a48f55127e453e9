use Rattle.std.proofs.Common.{IfSome}
use Rattle.klsm_pile.specs.Uniting.{ArePartners}
use Rattle.klsm_pile.proofs.uniting.shortest_partner_before.Given as goal

abbrev pub invariant-loop-one : goal.invariant-loop-one
invariant-loop-one g l = IfSome l.found (λ one. ArePartners l.pieces one l.other)
