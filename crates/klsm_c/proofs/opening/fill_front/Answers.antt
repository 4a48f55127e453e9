use Rattle.std.proofs.Common.{rules, ◌≡◌, ◌<◌, ◌++◌, List, [], ◌∷◌, length, map, slice_index_or, slice_set, sym, ap, ◌∙◌, arith}
use Rattle.std.specs.Prelude.{take, drop}
use Rattle.klsm_owned.specs.declared.owned.OwnedMember.{OwnedMember}
use Rattle.klsm_owned.proofs.ListLemmas.{length_mapped}
use Rattle.klsm_c.specs.declared.slot.Slot.{Slot}
use Rattle.klsm_c.specs.Slots.{alone, held_in}
use Rattle.klsm_c.proofs.ListLemmas.{copied_more, drop_more, index_dropped, index_mapped, map_set}
use Rattle.klsm_c.proofs.opening.fill_front.Goals as goal

pub loop-i-preserved : goal.loop-i-preserved
loop-i-preserved c =
    let now = c.loop-i.slots in let old = c.args.slots.now in let boxes = c.args.members.items in let values = map (λ b. b.value) boxes in let i = c.loop-i.i in let x = c.remove.result in
    let k : i < length boxes = omega (arith, c.loop-i-test.true, c.len-i-end.ensures) in let h : i < length old = omega (arith, k, c.requires) in
    let v : i < length values = omega (arith, k, length_mapped (λ b. b.value) boxes) in
    let held : Slot → List OwnedMember = λ slot. slot.handle.held in let none : List OwnedMember = [] in
    let x_is : x ≡ slice_index_or boxes i x = c.remove.ensures.value ∙ (ap (λ xs. slice_index_or xs 0 x) c.loop-i.invariant.members ∙ index_dropped boxes i x k) in
    let value = index_mapped (λ b. b.value) boxes i x x.value k in
    let there = index_mapped alone values i x.value (x.value ∷ []) v in
    record {
      slots = map_set held now i c.fill.new.self ∙ (ap (λ xs. slice_set (held_in now) i xs) c.fill.ensures ∙ (ap (λ xss. slice_set xss i (x.value ∷ [])) c.loop-i.invariant.slots
          ∙ copied_more (map alone values) (held_in old) i (x.value ∷ []) there.0 (index_mapped held old i c.index-slots-i.result none h).0
          (there.1 ∙ ap alone (value.1 ∙ ap (λ b. b.value) (sym x_is)))));
      members = drop_more boxes c.remove.new.self.items i (c.remove.ensures.by_index.2 ∙ ap (λ xs. take 0 xs ++ drop 1 xs) c.loop-i.invariant.members);
      same = search rules;
    }
