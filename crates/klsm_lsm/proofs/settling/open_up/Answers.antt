use Rattle.std.proofs.Common.{◌≡◌, ◌+◌, ◌-◌, take, drop, subst, arith}
use Rattle.std.proofs.lemmas.List.{length-map}
use Rattle.klsm_lsm.specs.Slots.{blocks_in}
use Rattle.klsm_lsm.proofs.MovingLemmas.{opening_first, opening_more}
use Rattle.klsm_lsm.proofs.settling.open_up.Goals as goal

pub loop-gap-init : goal.loop-gap-init
loop-gap-init g c = record { order = c.requires.order; opening = opening_first _ _ }

pub move_on-requires : goal.move_on-requires
move_on-requires g c = omega (arith, c.loop-gap.auto.slots, c.loop-gap.invariant.opening.order, c.requires.within, c.loop-gap-test.true)

pub loop-gap-preserved : goal.loop-gap-preserved
loop-gap-preserved g c = record {
  order = omega (arith, c.loop-gap-test.true);
  opening = opening_more _ _ _ _ c.loop-gap.gap _ c.loop-gap.invariant.opening (omega (arith, c.loop-gap-test.true)) (rw length-map c.requires.within) c.move_on.ensures.moved;
}

pub returns-clause-front : goal.returns-clause-front
returns-clause-front g c =
    let done : c.loop-gap.gap ≡ c.args.place = omega (arith, c.loop-gap-test.false, c.loop-gap.invariant.order) in
    subst (λ n. take n (blocks_in g.R.Run.items c.loop-gap.slots) ≡ take n (blocks_in g.R.Run.items c.args.slots.now)) done c.loop-gap.invariant.opening.front

pub returns-clause-moved : goal.returns-clause-moved
returns-clause-moved g c =
    let done : c.loop-gap.gap ≡ c.args.place = omega (arith, c.loop-gap-test.false, c.loop-gap.invariant.order) in
    subst (λ n. take (c.args.count - n) (drop (n + 1) (blocks_in g.R.Run.items c.loop-gap.slots)) ≡ take (c.args.count - n) (drop n (blocks_in g.R.Run.items c.args.slots.now))) done c.loop-gap.invariant.opening.moved

pub returns-clause-len : goal.returns-clause-len
returns-clause-len g c = c.loop-gap.auto.slots
