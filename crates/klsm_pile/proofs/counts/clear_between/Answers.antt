use Rattle.std.proofs.Common.{◌≡◌, ◌+◌, refl, ◌∙◌, ap, arith, length, inl, inr}
use Rattle.klsm_pile.specs.Pieces.{items_between}
use Rattle.klsm_pile.proofs.StoreLemmas.{sum_more, between_few, between_none, cleared_more, kept_more}
use Rattle.klsm_pile.proofs.counts.clear_between.Goals as goal

pub loop-level-init : goal.loop-level-init
loop-level-init c = record {
  order = omega arith;
  sum = λ ps counts_are. between_none _ ps;
  cleared = λ k at_least less. absurd (omega (arith, at_least, less));
  kept = λ k out. refl;
}

pub overflow_add-sum : goal.overflow_add-sum
overflow_add-sum c =
    let ps = c.requires.counted.0 in
    let here = c.loop-level.invariant.kept c.loop-level.level (inr (omega arith)) ∙ c.requires.counted.1 c.loop-level.level (omega (arith, c.loop-level-test.true, c.requires.fits)) in
    let more = sum_more c.args.low c.loop-level.level _ _ ps c.loop-level.invariant.order (c.loop-level.invariant.sum ps c.requires.counted.1) here in
    omega (arith, more, between_few c.args.low (c.loop-level.level + 1) ps, c.requires.counted.2)

pub loop-level-preserved : goal.loop-level-preserved
loop-level-preserved c = record {
  order = omega (arith, c.loop-level.invariant.order);
  sum = λ ps counts_are.
      sum_more c.args.low c.loop-level.level _ _ ps c.loop-level.invariant.order (c.loop-level.invariant.sum ps counts_are)
      (c.loop-level.invariant.kept c.loop-level.level (inr (omega arith)) ∙ counts_are c.loop-level.level (omega (arith, c.loop-level-test.true, c.requires.fits)));
  cleared = cleared_more _ _ _ (omega (arith, c.loop-level-test.true, c.requires.fits, c.loop-level.auto.counts)) c.loop-level.invariant.cleared;
  kept = kept_more _ _ _ _ c.loop-level.invariant.order c.loop-level.invariant.kept;
}

pub returns-clause-sum : goal.returns-clause-sum
returns-clause-sum c ps counted =
    let last : c.loop-level.level ≡ c.args.high + 1 = omega (arith, c.loop-level-test.false, c.loop-level.auto.level-end, c.requires.order) in
    c.loop-level.invariant.sum ps counted ∙ ap (λ n. length (items_between c.args.low n ps)) last

pub returns-clause-cleared : goal.returns-clause-cleared
returns-clause-cleared c k at_least at_most = c.loop-level.invariant.cleared k at_least (omega (arith, c.loop-level-test.false, at_most))

pub returns-clause-kept : goal.returns-clause-kept
returns-clause-kept c k out =
    c.loop-level.invariant.kept k (elim out [ inl under ↦ inl under | inr over ↦ inr (omega (arith, c.loop-level.auto.level-end, c.requires.order, over)) ])
