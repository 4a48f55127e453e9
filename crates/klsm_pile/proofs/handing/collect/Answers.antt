use Rattle.std.proofs.Common.{◌∙◌, arith}
use Rattle.klsm_pile.proofs.handing.collect.Goals as goal

pub returns-then-is_some-clause-below : goal.returns-then-is_some-clause-below
returns-then-is_some-clause-below g c levels below = c.collect_at-spent.ensures.below levels (c.loop-at.invariant.below levels below)

pub loop-at-preserved : goal.loop-at-preserved
loop-at-preserved g c = record {
  same = λ test. c.collect_at-spent.ensures.same test ∙ c.loop-at.invariant.same test;
  below = λ levels below. c.collect_at-spent.ensures.below levels (c.loop-at.invariant.below levels below);
  more = omega (arith, c.loop-at.invariant.more, c.collect_at-spent.ensures.more);
  capacity = c.collect_at-spent.ensures.capacity ∙ c.loop-at.invariant.capacity;
}
