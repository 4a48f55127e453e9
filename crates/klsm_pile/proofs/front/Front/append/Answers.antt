use Rattle.std.proofs.Common.{refl, ◌∙◌, arith}
use Rattle.klsm_pile.proofs.FrontLemmas.{appended_first, appended_more, appended_all, appended_length}
use Rattle.klsm_pile.proofs.front.Front.append.Goals as goal

pub loop-item-init : goal.loop-item-init
loop-item-init g c = record { items = appended_first _ c.args.level c.args.items.now; capacity = refl }

pub push-requires : goal.push-requires
push-requires g c =
    omega (arith, c.loop-item.invariant.capacity, c.requires, c.loop-item-test.true, appended_length _ _ _ _ _ c.loop-item.invariant.items (omega (arith, c.loop-item-test.true)))

pub loop-item-preserved : goal.loop-item-preserved
loop-item-preserved g c = record {
  items = appended_more _ _ _ _ _ _ _ c.loop-item-test.true c.loop-item.invariant.items c.push.ensures.items;
  capacity = c.push.ensures.capacity ∙ c.loop-item.invariant.capacity;
}

pub returns-clause-items : goal.returns-clause-items
returns-clause-items g c = appended_all _ _ _ _ _ (omega (arith, c.loop-item-test.false)) c.loop-item.invariant.items

pub returns-clause-capacity : goal.returns-clause-capacity
returns-clause-capacity g c = c.loop-item.invariant.capacity
