use Rattle.std.proofs.Common.{◌+◌, ◌∙◌, List, drop, refl, sym, ap}
use Rattle.std.proofs.lemmas.List.{drop_more, drop_all}
use Rattle.klsm_run.specs.declared.item.Item.{Item}
use Rattle.klsm_parts.specs.Events.{minus}
use Rattle.klsm_schedules.proofs.lemmas.lists.ListLemmas.{no_item}
use Rattle.klsm_world.proofs.contents.remove_all_from.Goals as goal

pub loop-item-init : goal.loop-item-init
loop-item-init g c = refl

pub loop-item-preserved : goal.loop-item-preserved
loop-item-preserved g c =
    let leaving = c.args.leaving.now in let index = c.loop-item.item-index in
    c.loop-item.invariant
    ∙ (ap (minus c.loop-item.items.items) (drop_more leaving index no_item c.loop-item-test.true)
    ∙ ap (λ xs. minus xs (drop (index + 1) leaving)) (sym {A = List Item} c.remove_from.ensures))

pub returns : goal.returns
returns g c =
    sym (c.loop-item.invariant ∙ ap (minus c.loop-item.items.items) (drop_all c.loop-item.item-index c.args.leaving.now c.loop-item-test.false))
