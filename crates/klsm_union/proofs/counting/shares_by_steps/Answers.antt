use Rattle.std.proofs.Common.{◌≡◌, ◌+◌, ◌∙◌, ap, sym, drop, ◌++◌, arith}
use Rattle.klsm_run.specs.Content.{sorted}
use Rattle.klsm_union.proofs.HeadLemmas.{counted_first, counted_left, counted_right, precedes_cut}
use Rattle.klsm_union.proofs.counting.shares_by_steps.Goals as goal

pub loop-i-init : goal.loop-i-init
loop-i-init c = record { counted = counted_first _ _; few = omega arith }

pub overflow_add-i : goal.overflow_add-i
overflow_add-i c = omega (arith, c.loop-i.invariant.few, c.ranges.count.fits)

pub slice_bounds-precedes-count : goal.slice_bounds-precedes-count
slice_bounds-precedes-count c = c.loop-i.invariant.counted.left_in

pub slice_bounds-precedes-count-in-loop-i : goal.slice_bounds-precedes-count-in-loop-i
slice_bounds-precedes-count-in-loop-i c = c.loop-i.invariant.counted.right_in

pub loop-i-smaller-then-precedes : goal.loop-i-smaller-then-precedes
loop-i-smaller-then-precedes c = omega (arith, c.loop-i-test.true)

pub loop-i-preserved-then-precedes : goal.loop-i-preserved-then-precedes
loop-i-preserved-then-precedes c = record {
  counted = counted_left _ _ c.loop-i.i c.loop-i.j c.requires.left c.requires.right (omega (arith, c.loop-i-test.true, c.requires.count)) (precedes_cut _ _ c.loop-i.i c.loop-i.j _ (sym c.precedes.ensures ∙ c.if-precedes.true)) c.loop-i.invariant.counted;
  few = omega (arith, c.loop-i-test.true);
}

pub loop-i-smaller : goal.loop-i-smaller
loop-i-smaller c = omega (arith, c.loop-i-test.true)

pub loop-i-preserved : goal.loop-i-preserved
loop-i-preserved c = record {
  counted = counted_right _ _ c.loop-i.i c.loop-i.j c.requires.left c.requires.right (precedes_cut _ _ c.loop-i.i c.loop-i.j _ (sym c.precedes.ensures ∙ c.if-precedes.false)) c.loop-i.invariant.counted;
  few = omega (arith, c.loop-i-test.true);
}

pub returns-clause-within : goal.returns-clause-within
returns-clause-within c = (c.loop-i.invariant.counted.left_in, c.loop-i.invariant.counted.right_in)

pub returns-clause-rest : goal.returns-clause-rest
returns-clause-rest c =
    let all : c.loop-i.i + c.loop-i.j ≡ c.args.count = omega (arith, c.loop-i-test.false, c.loop-i.invariant.few) in
    c.loop-i.invariant.counted.rest ∙ ap (λ n. drop n (sorted (c.args.left.now ++ c.args.right.now))) all
