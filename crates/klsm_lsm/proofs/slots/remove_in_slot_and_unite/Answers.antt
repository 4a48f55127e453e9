use Rattle.std.proofs.Common.{rules, ◌≡◌, ◌+◌, [], get_or, ap, ◌∙◌, arith, length, refl}
use Rattle.klsm_lsm.specs.Slots.{block_in, blocks_in}
use Rattle.klsm_lsm.proofs.TwoSlotLemmas.{last_of_front, first_of_back, front_set}
use Rattle.klsm_lsm.proofs.slots.remove_in_slot_and_unite.Goals as goal

pub remove_and_unite-requires-clause-apart : goal.remove_and_unite-requires-clause-apart
remove_and_unite-requires-clause-apart g c =
    let split = c.split_at_mut-front.ensures in
    let items = g.R.Run.items in
    let one : get_or (blocks_in items c.args.slots.now) c.args.at [] ≡ items c.in-Some.run' = last_of_front items _ _ _ _ _ split.value split.front_len ∙ ap (block_in items) c.in-Some.is in
    let two : get_or (blocks_in items c.args.slots.now) (c.args.at + 1) [] ≡ items c.in-Some-back.next = first_of_back items _ _ _ _ _ split.value split.front_len c.requires.at ∙ ap (block_in items) c.in-Some-back.is in
    rw (← one, ← two) c.requires.apart

pub returns : goal.returns
returns g c =
    let split = c.split_at_mut-front.ensures in
    let items = g.R.Run.items in
    let one : get_or (blocks_in items c.args.slots.now) c.args.at [] ≡ items c.in-Some.run' = last_of_front items _ _ _ _ _ split.value split.front_len ∙ ap (block_in items) c.in-Some.is in
    let two : get_or (blocks_in items c.args.slots.now) (c.args.at + 1) [] ≡ items c.in-Some-back.next = first_of_back items _ _ _ _ _ split.value split.front_len c.requires.at ∙ ap (block_in items) c.in-Some-back.is in
    rw (one, two) (front_set items _ _ _ _ _ _ split.value split.front_len c.remove_and_unite.ensures)

pub overflow_add-at : goal.overflow_add-at
overflow_add-at g c = omega (arith, c.requires.at)

pub offset_bounds-front-at : goal.offset_bounds-front-at
offset_bounds-front-at g c = search rules

pub bounds-front-at : goal.bounds-front-at
bounds-front-at g c = omega (arith, c.split_at_mut-front.ensures.front_len)

pub both_followed-slots : goal.both_followed-slots
both_followed-slots g c = (refl, refl)

pub slice_back_joined-slots : goal.slice_back_joined-slots
slice_back_joined-slots g c = refl

pub unreachable-requires : goal.unreachable-requires
unreachable-requires g c =
    let split = c.split_at_mut-front.ensures in
    let items = g.R.Run.items in
    let none : get_or (blocks_in items c.args.slots.now) c.args.at [] ≡ [] = last_of_front items _ _ _ _ _ split.value split.front_len ∙ ap (block_in items) c.in_default.is in
    omega (arith, ap length none, c.requires.left)

pub offset_bounds-0 : goal.offset_bounds-0
offset_bounds-0 g c = search rules

pub both_followed-slots-in_default-back : goal.both_followed-slots-in_default-back
both_followed-slots-in_default-back g c = (refl, refl)

pub slice_back_joined-slots-in_default-back : goal.slice_back_joined-slots-in_default-back
slice_back_joined-slots-in_default-back g c = refl

pub remove_and_unite-requires-clause-left : goal.remove_and_unite-requires-clause-left
remove_and_unite-requires-clause-left g c =
    let split = c.split_at_mut-front.ensures in
    let items = g.R.Run.items in
    let one : get_or (blocks_in items c.args.slots.now) c.args.at [] ≡ items c.in-Some.run' = last_of_front items _ _ _ _ _ split.value split.front_len ∙ ap (block_in items) c.in-Some.is in
    omega (arith, ap length one, c.requires.left)

pub remove_and_unite-requires-clause-room : goal.remove_and_unite-requires-clause-room
remove_and_unite-requires-clause-room g c =
    let split = c.split_at_mut-front.ensures in
    let items = g.R.Run.items in
    let one : get_or (blocks_in items c.args.slots.now) c.args.at [] ≡ items c.in-Some.run' = last_of_front items _ _ _ _ _ split.value split.front_len ∙ ap (block_in items) c.in-Some.is in
    let two : get_or (blocks_in items c.args.slots.now) (c.args.at + 1) [] ≡ items c.in-Some-back.next = first_of_back items _ _ _ _ _ split.value split.front_len c.requires.at ∙ ap (block_in items) c.in-Some-back.is in
    rw (← one, ← two) c.requires.room

pub both_followed-slots-2 : goal.both_followed-slots-2
both_followed-slots-2 g c = (refl, refl)

pub slice_back_joined-slots-2 : goal.slice_back_joined-slots-2
slice_back_joined-slots-2 g c = refl

pub remove_and_unite-requires-clause-within : goal.remove_and_unite-requires-clause-within
remove_and_unite-requires-clause-within g c =
    let split = c.split_at_mut-front.ensures in
    let items = g.R.Run.items in
    let one : get_or (blocks_in items c.args.slots.now) c.args.at [] ≡ items c.in-Some.run' = last_of_front items _ _ _ _ _ split.value split.front_len ∙ ap (block_in items) c.in-Some.is in
    omega (arith, ap length one, c.requires.within)
