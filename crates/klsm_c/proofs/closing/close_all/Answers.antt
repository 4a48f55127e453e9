use Rattle.std.proofs.Common.{◌<◌, List, [], length, map, slice_set, ap, ◌∙◌}
use Rattle.klsm_owned.specs.declared.owned.OwnedMember.{OwnedMember}
use Rattle.klsm_c.specs.declared.slot.Slot.{Slot}
use Rattle.klsm_c.specs.Slots.{held_in}
use Rattle.klsm_c.proofs.ListLemmas.{copied_more, index_mapped, map_set}
use Rattle.klsm_c.proofs.SlotLemmas.{all_closed}
use Rattle.klsm_c.proofs.closing.close_all.Goals as goal

pub returns : goal.returns
returns c = all_closed c.loop-i.slots c.args.slots.now c.loop-i.i c.loop-i.invariant c.loop-i-test.false

pub loop-i-preserved : goal.loop-i-preserved
loop-i-preserved c =
    let now = c.loop-i.slots in let old = c.args.slots.now in let i = c.loop-i.i in let d = c.index-slots-i.result in let h : i < length old = c.loop-i-test.true in
    let none : List OwnedMember = [] in let blank : Slot → List OwnedMember = λ _. [] in let held : Slot → List OwnedMember = λ slot. slot.handle.held in
    map_set held now i c.take.new.self ∙ (ap (λ xs. slice_set (held_in now) i xs) c.take.ensures.empty ∙ (ap (λ xss. slice_set xss i none) c.loop-i.invariant
    ∙ copied_more (map blank old) (held_in old) i none (index_mapped blank old i d none h).0 (index_mapped held old i d none h).0 (index_mapped blank old i d none h).1))
