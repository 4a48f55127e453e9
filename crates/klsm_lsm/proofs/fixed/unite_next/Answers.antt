use Rattle.std.proofs.Common.{rules, ◌≡◌, ◌+◌, [], get_or, ap, ◌∙◌, arith, length, Some, set, refl}
use Rattle.std.proofs.lemmas.List.{length-append, length-set}
use Rattle.klsm_lsm.specs.Slots.{block_in, blocks_in}
use Rattle.klsm_lsm.proofs.TwoSlotLemmas.{last_of_front, first_of_back, front_set}
use Rattle.klsm_lsm.proofs.fixed.unite_next.Goals as goal

pub unite-requires : goal.unite-requires
unite-requires g c =
    let split = c.split_at_mut-front.ensures in
    let one : get_or (blocks_in (λ run. run) c.args.slots.now) c.args.at [] ≡ c.in-Some.greater = last_of_front (λ run. run) _ _ _ _ _ split.value split.front_len ∙ ap (block_in (λ run. run)) c.in-Some.is in
    let two : get_or (blocks_in (λ run. run) c.args.slots.now) (c.args.at + 1) [] ≡ c.in-Some-back.lesser = first_of_back (λ run. run) _ _ _ _ _ split.value split.front_len c.requires.within ∙ ap (block_in (λ run. run)) c.in-Some-back.is in
    (search, (rw (← one, ← two) c.requires.apart, rw (← one, ← two) c.requires.room))

pub returns-clause-united : goal.returns-clause-united
returns-clause-united g c =
    let split = c.split_at_mut-front.ensures in
    let one : get_or (blocks_in (λ run. run) c.args.slots.now) c.args.at [] ≡ c.in-Some.greater = last_of_front (λ run. run) _ _ _ _ _ split.value split.front_len ∙ ap (block_in (λ run. run)) c.in-Some.is in
    let two : get_or (blocks_in (λ run. run) c.args.slots.now) (c.args.at + 1) [] ≡ c.in-Some-back.lesser = first_of_back (λ run. run) _ _ _ _ _ split.value split.front_len c.requires.within ∙ ap (block_in (λ run. run)) c.in-Some-back.is in
    rw (one, two) (front_set (λ run. run) _ _ _ _ _ _ split.value split.front_len c.unite.ensures.union)

pub overflow_add-at : goal.overflow_add-at
overflow_add-at g c = omega (arith, c.requires.within)

pub split_at_mut-front-requires : goal.split_at_mut-front-requires
split_at_mut-front-requires g c = omega (arith, c.requires.within)

pub offset_bounds-front-at : goal.offset_bounds-front-at
offset_bounds-front-at g c = search rules

pub bounds-front-at : goal.bounds-front-at
bounds-front-at g c = omega (arith, c.split_at_mut-front.ensures.front_len)

pub both_followed-slots : goal.both_followed-slots
both_followed-slots g c = (refl, refl)

pub slice_back_joined-slots : goal.slice_back_joined-slots
slice_back_joined-slots g c = refl

pub unreachable-requires : goal.unreachable-requires
unreachable-requires g c =
    let split = c.split_at_mut-front.ensures in
    let none : get_or (blocks_in (λ run. run) c.args.slots.now) c.args.at [] ≡ [] = last_of_front (λ run. run) _ _ _ _ _ split.value split.front_len ∙ ap (block_in (λ run. run)) c.in_default.is in
    omega (arith, ap length none, c.requires.some)

pub offset_bounds-0 : goal.offset_bounds-0
offset_bounds-0 g c = search rules

pub both_followed-slots-in_default-back : goal.both_followed-slots-in_default-back
both_followed-slots-in_default-back g c = (refl, refl)

pub slice_back_joined-slots-in_default-back : goal.slice_back_joined-slots-in_default-back
slice_back_joined-slots-in_default-back g c = refl

pub both_followed-slots-2 : goal.both_followed-slots-2
both_followed-slots-2 g c = (refl, refl)

pub slice_back_joined-slots-2 : goal.slice_back_joined-slots-2
slice_back_joined-slots-2 g c = refl

pub returns-clause-len : goal.returns-clause-len
returns-clause-len g c =
    let split = c.split_at_mut-front.ensures in
    omega (arith, length-append (set c.split_at_mut-front.result.0.now c.args.at (Some c.unite.new.self)) c.split_at_mut-front.result.1.now, length-set c.split_at_mut-front.result.0.now c.args.at (Some c.unite.new.self), ap length split.value, length-append c.split_at_mut-front.result.0.now c.split_at_mut-front.result.1.now)
