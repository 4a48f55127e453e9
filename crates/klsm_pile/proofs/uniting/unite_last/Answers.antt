use Rattle.std.proofs.Common.{◌∙◌, arith}
use Rattle.klsm_pile.proofs.PairLemmas.{still_few, fewer_still}
use Rattle.klsm_pile.proofs.uniting.unite_last.Goals as goal

pub unite_at-requires-clause-few : goal.unite_at-requires-clause-few
unite_at-requires-clause-few g c = omega (arith, still_few c.args.pieces.now.items c.loop-at.pieces.items c.loop-at.invariant.same, c.requires.few)

pub returns-then-not-unite_at-clause-below : goal.returns-then-not-unite_at-clause-below
returns-then-not-unite_at-clause-below g c levels below = c.unite_at.ensures.below levels (c.loop-at.invariant.below levels below)

pub loop-at-preserved : goal.loop-at-preserved
loop-at-preserved g c = record {
  same = λ test. c.unite_at.ensures.same test ∙ c.loop-at.invariant.same test;
  below = λ levels below. c.unite_at.ensures.below levels (c.loop-at.invariant.below levels below);
  fewer = fewer_still _ _ _ _ c.if-not-unite_at.false c.unite_at.ensures.fewer c.loop-at.invariant.fewer;
  capacity = c.unite_at.ensures.capacity ∙ c.loop-at.invariant.capacity;
}
