use Rattle.std.proofs.Common.{IfSome}
use Rattle.klsm_pile.specs.Uniting.{ArePartners}
use Rattle.klsm_pile.proofs.uniting.shortest_partners.Given as goal

abbrev pub invariant-loop-other : goal.invariant-loop-other
invariant-loop-other g l = IfSome l.found (λ found. ArePartners l.pieces found.0 found.1)
