use Rattle.std.proofs.Common.{◌≡◌, ◌≤◌, [], length, get_or, sym, ap, ◌∙◌, arith, refl}
use Rattle.std.proofs.lemmas.List.{length-map}
use Rattle.std.proofs.lemmas.Option.{get_or_from_slice_get}
use Rattle.klsm_lsm.specs.Adding.{without_items}
use Rattle.klsm_lsm.specs.Lsm.{content}
use Rattle.klsm_lsm.specs.Slots.{blocks_in}
use Rattle.klsm_lsm.proofs.RemovingLemmas.{block_in_place, emptied, stayed, cut_stored, items_at}
use Rattle.klsm_lsm.proofs.SlotLemmas.{some_at}
use Rattle.klsm_lsm.proofs.StoredLemmas.{count_blocks, shown, slots_back, view_back}
use Rattle.klsm_lsm.proofs.lsm.Lsm.remove_alone.Goals as goal

pub overflow_sub-self : goal.overflow_sub-self
overflow_sub-self g c =
    let most : length (get_or c.args.self.now c.args.block []) ≤ length (content c.args.self.now) = items_at c.args.self.now c.args.block in
    omega (arith, c.self.invariant.stored.counted, ap (λ bs. length (content bs)) c.self.view_is, most, c.requires.within)

pub remove_in_slot-requires : goal.remove_in_slot-requires
remove_in_slot-requires g c =
    let value = c.as_mut_slice-slots.ensures.value in
    let sl = blocks_in g.R.Run.items c.self.inside.slots.items in
    let one : get_or sl c.args.block [] ≡ get_or c.args.self.now c.args.block [] = block_in_place c.args.self.now c.args.block c.self.invariant c.self.view_is c.requires.block in
    record {
      at = rw value (omega (arith, c.requires.block, ap length c.self.view_is, count_blocks c.self.invariant, rw length-map at c.self.invariant.within));
      some = rw (value, one) (some_at c.args.self.now c.args.block (shown c.args.self.now c.self.invariant c.self.view_is).within.lawful c.requires.block);
      within = rw (value, one) c.requires.within;
      one = c.requires.one;
    }

pub invariant_of-self : goal.invariant_of-self
invariant_of-self g c =
    let value = c.as_mut_slice-slots.ensures.value in
    let sl = blocks_in g.R.Run.items c.self.inside.slots.items in
    let block : get_or c.args.self.now c.args.block [] ≡ g.R.Run.items c.block.result.now = get_or_from_slice_get c.args.self.now c.args.block _ [] c.block.ensures.block in
    let all : length (get_or c.args.self.now c.args.block []) ≡ c.args.count = ap length block ∙ (sym c.len-len.ensures.len ∙ c.if-len-count.true) in
    let rest = emptied sl _ _ c.args.self.now c.args.block c.args.from c.args.count _ c.self.invariant c.self.view_is c.requires.block all (rw value at c.remove_in_slot.ensures) c.close_gap.ensures.moved in
    let len : length c.remove_in_slot.new.slots ≡ length c.self.inside.slots.items = c.remove_in_slot.auto.slots ∙ ap length value in
    slots_back g.R.Run.items _ _ _ _ c.self.inside.slots.items c.close_gap.new.slots _ (c.close_gap.ensures.len ∙ len) (omega (arith, rw length-map at c.self.invariant.within)) rest
    (cut_stored c.args.self.now c.args.block c.args.from c.args.count c.self.invariant c.self.view_is c.requires.block c.requires.within)

pub invariant_of-self-else-len-count : goal.invariant_of-self-else-len-count
invariant_of-self-else-len-count g c =
    let value = c.as_mut_slice-slots.ensures.value in
    let sl = blocks_in g.R.Run.items c.self.inside.slots.items in
    let here : get_or sl c.args.block [] ≡ get_or c.args.self.now c.args.block [] = block_in_place c.args.self.now c.args.block c.self.invariant c.self.view_is c.requires.block in
    let block : get_or c.args.self.now c.args.block [] ≡ g.R.Run.items c.block.result.now = get_or_from_slice_get c.args.self.now c.args.block _ [] c.block.ensures.block in
    let rest = stayed sl _ c.args.self.now c.args.block c.args.from c.args.count _ c.self.invariant c.self.view_is c.requires.block c.requires.alone c.requires.within (λ all. c.if-len-count.false (c.len-len.ensures.len ∙ (sym (ap length block) ∙ all)))
    (rw value at c.remove_in_slot.ensures) (ap (λ b. without_items b c.args.from c.args.count) here) in
    slots_back g.R.Run.items _ _ _ _ c.self.inside.slots.items c.remove_in_slot.new.slots _ (c.remove_in_slot.auto.slots ∙ ap length value) (rw length-map at c.self.invariant.within) rest
    (cut_stored c.args.self.now c.args.block c.args.from c.args.count c.self.invariant c.self.view_is c.requires.block c.requires.within)

pub returns-then-len-count : goal.returns-then-len-count
returns-then-len-count g c =
    let value = c.as_mut_slice-slots.ensures.value in
    let sl = blocks_in g.R.Run.items c.self.inside.slots.items in
    let block : get_or c.args.self.now c.args.block [] ≡ g.R.Run.items c.block.result.now = get_or_from_slice_get c.args.self.now c.args.block _ [] c.block.ensures.block in
    let all : length (get_or c.args.self.now c.args.block []) ≡ c.args.count = ap length block ∙ (sym c.len-len.ensures.len ∙ c.if-len-count.true) in
    let rest = emptied sl _ _ c.args.self.now c.args.block c.args.from c.args.count _ c.self.invariant c.self.view_is c.requires.block all (rw value at c.remove_in_slot.ensures) c.close_gap.ensures.moved in
    let len : length c.remove_in_slot.new.slots ≡ length c.self.inside.slots.items = c.remove_in_slot.auto.slots ∙ ap length value in
    view_back g.R.Run.items _ c.self.inside.slots.items c.close_gap.new.slots _ (c.close_gap.ensures.len ∙ len) rest

pub returns-else-len-count : goal.returns-else-len-count
returns-else-len-count g c =
    let value = c.as_mut_slice-slots.ensures.value in
    let sl = blocks_in g.R.Run.items c.self.inside.slots.items in
    let here : get_or sl c.args.block [] ≡ get_or c.args.self.now c.args.block [] = block_in_place c.args.self.now c.args.block c.self.invariant c.self.view_is c.requires.block in
    let block : get_or c.args.self.now c.args.block [] ≡ g.R.Run.items c.block.result.now = get_or_from_slice_get c.args.self.now c.args.block _ [] c.block.ensures.block in
    let rest = stayed sl _ c.args.self.now c.args.block c.args.from c.args.count _ c.self.invariant c.self.view_is c.requires.block c.requires.alone c.requires.within (λ all. c.if-len-count.false (c.len-len.ensures.len ∙ (sym (ap length block) ∙ all)))
    (rw value at c.remove_in_slot.ensures) (ap (λ b. without_items b c.args.from c.args.count) here) in
    view_back g.R.Run.items _ c.self.inside.slots.items c.remove_in_slot.new.slots _ (c.remove_in_slot.auto.slots ∙ ap length value) rest

pub close_gap-requires-clause-at : goal.close_gap-requires-clause-at
close_gap-requires-clause-at g c = omega (arith, count_blocks c.self.invariant, ap length c.self.view_is, c.requires.block)

pub close_gap-requires-clause-within : goal.close_gap-requires-clause-within
close_gap-requires-clause-within g c = omega (arith, c.remove_in_slot.auto.slots, ap length c.as_mut_slice-slots.ensures.value, rw length-map at c.self.invariant.within)

pub way_back_following-self : goal.way_back_following-self
way_back_following-self g c = (refl, refl)

pub overflow_sub-self-then-len-count : goal.overflow_sub-self-then-len-count
overflow_sub-self-then-len-count g c = omega (arith, count_blocks c.self.invariant, ap length c.self.view_is, c.requires.block)
