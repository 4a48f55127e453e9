use Rattle.std.proofs.Common.{refl, arith}
use Rattle.klsm_pile.proofs.SeekingLemmas.{first_over, none_over_more, none_over_all}
use Rattle.klsm_pile.proofs.seeking.first_above.Goals as goal

pub loop-item-init : goal.loop-item-init
loop-item-init c = refl

pub returns-then-is_above : goal.returns-then-is_above
returns-then-is_above c = first_over c.args.bound c.args.items.now c.loop-item.item-index _ _ c.requires c.loop-item-test.true c.is_above.ensures c.if-is_above.true c.loop-item.invariant

pub loop-item-preserved : goal.loop-item-preserved
loop-item-preserved c = none_over_more c.args.bound c.args.items.now c.loop-item.item-index _ _ c.loop-item-test.true c.is_above.ensures c.if-is_above.false c.loop-item.invariant

pub returns : goal.returns
returns c = none_over_all c.args.bound c.args.items.now c.loop-item.item-index (omega (arith, c.loop-item-test.false)) c.loop-item.invariant
