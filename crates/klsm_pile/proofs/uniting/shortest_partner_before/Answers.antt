use Rattle.std.proofs.Common.{ℕ, Option, IfSome, sym, subst, arith}
use Rattle.klsm_pile.specs.Uniting.{ArePartners}
use Rattle.klsm_pile.proofs.PairLemmas.{partners_if}
use Rattle.klsm_pile.proofs.uniting.shortest_partner_before.Goals as goal
use Rattle.klsm_pile.proofs.uniting.shortest_partner_before.Goals.{then-can_unite+then-items-fewest, else-can_unite}

pub loop-one-preserved : goal.loop-one-preserved
loop-one-preserved g c = elim c.if-can_unite.branch [
  | then-can_unite+then-items-fewest w ↦
      subst (λ (o : Option ℕ). IfSome o (λ one. ArePartners c.args.pieces.now one c.args.other)) (sym w.found-is)
      (partners_if c.args.pieces.now _ _ c.index-pieces-one-in-loop-one.result c.index-pieces-other.result c.can_unite.result (omega (arith, c.loop-one-test.true)) c.requires c.index-pieces-one-in-loop-one.is c.index-pieces-other.is
      w.if-can_unite.true c.can_unite.ensures)
  | else-can_unite w ↦ subst (λ (o : Option ℕ). IfSome o (λ one. ArePartners c.args.pieces.now one c.args.other)) (sym w.found-is) c.loop-one.invariant
]
