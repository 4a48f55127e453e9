use Rattle.std.proofs.Common.{◌≡◌, ◌+◌, ◌++◌, take, drop, subst, arith}
use Rattle.std.proofs.lemmas.List.{length-map}
use Rattle.klsm_lsm.specs.Slots.{blocks_in}
use Rattle.klsm_lsm.proofs.MovingLemmas.{moving_first, moving_more, none_moved}
use Rattle.klsm_lsm.proofs.slots.close_up.Goals as goal

pub loop-moved-init : goal.loop-moved-init
loop-moved-init g c = moving_first _ _ _

pub move_to-requires : goal.move_to-requires
move_to-requires g c = record {
  order = omega (arith, c.if-to-from.false, c.requires.order);
  within = omega (arith, c.loop-moved.auto.slots, c.loop-moved-test.true, c.requires.within);
}

pub loop-moved-preserved : goal.loop-moved-preserved
loop-moved-preserved g c =
    moving_more _ _ _ _ _ _ c.loop-moved.invariant (omega (arith, c.if-to-from.false, c.requires.order)) (rw length-map (omega (arith, c.loop-moved-test.true, c.requires.within))) c.move_to.ensures.moved

pub returns-then-to-from-clause-moved : goal.returns-then-to-from-clause-moved
returns-then-to-from-clause-moved g c = none_moved _ _ _ _ c.if-to-from.true

pub returns-clause-moved : goal.returns-clause-moved
returns-clause-moved g c =
    let done : c.loop-moved.moved ≡ c.args.count = omega (arith, c.loop-moved-test.false, c.loop-moved.auto.moved-end) in
    let old = blocks_in g.R.Run.items c.args.slots.now in
    subst (λ n. take (c.args.to + n) (blocks_in g.R.Run.items c.loop-moved.slots) ≡ take c.args.to old ++ take n (drop c.args.from old)) done c.loop-moved.invariant.front

pub returns-clause-len : goal.returns-clause-len
returns-clause-len g c = c.loop-moved.auto.slots
