use Rattle.std.proofs.Common.{ℕ, Option, IfSome, sym, subst}
use Rattle.klsm_pile.specs.Uniting.{ArePartners}
use Rattle.klsm_pile.proofs.uniting.shortest_partners.Goals as goal
use Rattle.klsm_pile.proofs.uniting.shortest_partners.Goals.{in-Some+then-is_none, in-Some+else-is_none+else-items-fewest, in_default}

pub loop-other-preserved : goal.loop-other-preserved
loop-other-preserved g c = elim c.match-shortest_partner_before.branch [
  | in-Some+then-is_none w ↦
      subst (λ (o : Option (ℕ × ℕ)). IfSome o (λ found. ArePartners c.args.pieces.now found.0 found.1)) (sym w.found-is)
      (subst (λ (o : Option ℕ). IfSome o (λ one. ArePartners c.args.pieces.now one c.loop-other.other)) w.in-Some.is c.shortest_partner_before.ensures)
  | in-Some+else-is_none+else-items-fewest w ↦
      subst (λ (o : Option (ℕ × ℕ)). IfSome o (λ found. ArePartners c.args.pieces.now found.0 found.1)) (sym w.found-is) c.loop-other.invariant
  | in_default w ↦ subst (λ (o : Option (ℕ × ℕ)). IfSome o (λ found. ArePartners c.args.pieces.now found.0 found.1)) (sym w.found-is) c.loop-other.invariant
]
