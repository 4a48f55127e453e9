use Rattle.std.proofs.Common.{◌≡◌, ◌+◌, ◌≤◌, [], length, get_or, refl, ap, ◌∙◌, arith}
use Rattle.std.proofs.lemmas.List.{length-map}
use Rattle.klsm_lsm.specs.Lsm.{content}
use Rattle.klsm_lsm.specs.Slots.{blocks_in}
use Rattle.klsm_lsm.proofs.RemovingLemmas.{block_in_place, can_join, joined_blocks, cut_stored, items_at}
use Rattle.klsm_lsm.proofs.StoredLemmas.{count_blocks, slots_back, view_back, few_blocks}
use Rattle.klsm_lsm.proofs.lsm.Lsm.remove_and_join.Goals as goal

pub overflow_sub-self : goal.overflow_sub-self
overflow_sub-self g c =
    let most : length (get_or c.args.self.now c.args.block []) ≤ length (content c.args.self.now) = items_at c.args.self.now c.args.block in
    omega (arith, c.self.invariant.stored.counted, ap (λ bs. length (content bs)) c.self.view_is, most, c.requires.joins.some_left)

pub remove_in_slot_and_unite-requires : goal.remove_in_slot_and_unite-requires
remove_in_slot_and_unite-requires g c =
    let value = c.as_mut_slice-slots.ensures.value in
    let joins = c.requires.joins in
    let sl = blocks_in g.R.Run.items c.self.inside.slots.items in
    let one : get_or sl c.args.block [] ≡ get_or c.args.self.now c.args.block [] = block_in_place c.args.self.now c.args.block c.self.invariant c.self.view_is (omega (arith, joins.within)) in
    let two : get_or sl (c.args.block + 1) [] ≡ get_or c.args.self.now (c.args.block + 1) [] = block_in_place c.args.self.now (c.args.block + 1) c.self.invariant c.self.view_is joins.within in
    let can = can_join _ _ _ _ sl c.args.self.now c.args.block c.args.count c.self.invariant c.self.view_is joins in
    record {
      at = rw value (omega (arith, joins.within, ap length c.self.view_is, count_blocks c.self.invariant, rw length-map at c.self.invariant.within));
      within = rw (value, one) c.requires.within;
      one = c.requires.one;
      left = rw (value, one) joins.some_left;
      some = rw (value, two) can.some;
      apart = rw (value, one, two) can.apart;
      room = rw (value, one, two) can.fits;
    }

pub close_gap-requires-clause-at : goal.close_gap-requires-clause-at
close_gap-requires-clause-at g c = omega (arith, c.requires.joins.within, ap length c.self.view_is, count_blocks c.self.invariant)

pub invariant_of-self : goal.invariant_of-self
invariant_of-self g c =
    let value = c.as_mut_slice-slots.ensures.value in
    let joins = c.requires.joins in
    let sl = blocks_in g.R.Run.items c.self.inside.slots.items in
    let one : get_or sl c.args.block [] ≡ get_or c.args.self.now c.args.block [] = block_in_place c.args.self.now c.args.block c.self.invariant c.self.view_is (omega (arith, joins.within)) in
    let two : get_or sl (c.args.block + 1) [] ≡ get_or c.args.self.now (c.args.block + 1) [] = block_in_place c.args.self.now (c.args.block + 1) c.self.invariant c.self.view_is joins.within in
    let rest = joined_blocks sl _ _ c.args.self.now c.args.block c.args.from c.args.count _ c.self.invariant c.self.view_is joins c.requires.within (rw value at c.remove_in_slot_and_unite.ensures) (rw (one, two) refl) c.close_gap.ensures.moved in
    let len : length c.remove_in_slot_and_unite.new.slots ≡ length c.self.inside.slots.items = c.remove_in_slot_and_unite.auto.slots ∙ ap length value in
    slots_back g.R.Run.items _ _ _ _ c.self.inside.slots.items c.close_gap.new.slots _ (c.close_gap.ensures.len ∙ len) (omega (arith, rw length-map at c.self.invariant.within)) rest
    (cut_stored c.args.self.now c.args.block c.args.from c.args.count c.self.invariant c.self.view_is (omega (arith, joins.within)) c.requires.within)

pub returns : goal.returns
returns g c =
    let value = c.as_mut_slice-slots.ensures.value in
    let joins = c.requires.joins in
    let sl = blocks_in g.R.Run.items c.self.inside.slots.items in
    let one : get_or sl c.args.block [] ≡ get_or c.args.self.now c.args.block [] = block_in_place c.args.self.now c.args.block c.self.invariant c.self.view_is (omega (arith, joins.within)) in
    let two : get_or sl (c.args.block + 1) [] ≡ get_or c.args.self.now (c.args.block + 1) [] = block_in_place c.args.self.now (c.args.block + 1) c.self.invariant c.self.view_is joins.within in
    let rest = joined_blocks sl _ _ c.args.self.now c.args.block c.args.from c.args.count _ c.self.invariant c.self.view_is joins c.requires.within (rw value at c.remove_in_slot_and_unite.ensures) (rw (one, two) refl) c.close_gap.ensures.moved in
    let len : length c.remove_in_slot_and_unite.new.slots ≡ length c.self.inside.slots.items = c.remove_in_slot_and_unite.auto.slots ∙ ap length value in
    view_back g.R.Run.items _ c.self.inside.slots.items c.close_gap.new.slots _ (c.close_gap.ensures.len ∙ len) rest

pub overflow_add-block : goal.overflow_add-block
overflow_add-block g c = omega (arith, few_blocks c.self.invariant, count_blocks c.self.invariant, ap length c.self.view_is, c.requires.joins.within, c.self.invariant.stored.within.levels_in_range.at_most)

pub close_gap-requires-clause-within : goal.close_gap-requires-clause-within
close_gap-requires-clause-within g c = omega (arith, c.remove_in_slot_and_unite.auto.slots, ap length c.as_mut_slice-slots.ensures.value, rw length-map at c.self.invariant.within)

pub way_back_following-self : goal.way_back_following-self
way_back_following-self g c = (refl, refl)

pub overflow_sub-self-2 : goal.overflow_sub-self-2
overflow_sub-self-2 g c = omega (arith, count_blocks c.self.invariant, ap length c.self.view_is, c.requires.joins.within)
