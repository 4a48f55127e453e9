use Rattle.std.proofs.Common.{arith, refl}
use Rattle.klsm_run.specs.declared.item.Item.{Item}
use Rattle.klsm_union.proofs.ApartLemmas.{share_none_so_far}
use Rattle.klsm_union.proofs.tests.made.share_none.Goals as goal

pub loop-item-init : goal.loop-item-init
loop-item-init c = λ k x lt. absurd (omega (arith, lt))

pub loop-item-preserved : goal.loop-item-preserved
loop-item-preserved c =
    let none : Item = record { key = 0; stamp = record { owner = 0; number = 0 }; load = 0 } in
    share_none_so_far c.args.items.now c.args.others.now c.loop-item.item-index none (omega (arith, c.loop-item-test.true)) c.loop-item.invariant (λ there. c.if-has.ensures refl there)

pub returns : goal.returns
returns c = λ is_true x there other. c.loop-item.invariant there.0 x (omega (arith, there.1, c.loop-item-test.false)) there.2 other
