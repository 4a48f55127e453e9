use Rattle.std.proofs.Common.{arith, ◌≡◌, ℕ, ◌+◌, List, length, set, refl, sym, ap, ◌∙◌, subst}
use Rattle.atomic_table.specs.Table.{opening}
use Rattle.klsm_parts.proofs.FitLemmas.{local_fits, shared_fits}
use Rattle.klsm_board.specs.declared.sizes.Sizes.{Sizes}
use Rattle.klsm_board.specs.Slots.{slot_content, IsSlotOf}
use Rattle.klsm_board.specs.Rule.{place, everyone, Ruled}
use Rattle.klsm_board.proofs.lemmas.table.OpeningLemmas.{first_words, length_first, opens}
use Rattle.klsm_board.proofs.making.table_of.Goals as goal

pub new-requires : goal.new-requires
new-requires g c =
    let m : Sizes = c.args.sizes in
    let words_are : c.as_slice.result.now ≡ first_words m = c.as_slice.ensures.value ∙ ap (λ (ws : List ℕ). set ws (place (m.threads + 1)) 18446744073709551615) (c.in_ok-words.ensures.items_if_clones_equal (λ y same. same)) in
    let slots = c.in_ok-slots.slots.items in
    subst (λ (ws : List ℕ). Ruled slot_content IsSlotOf m (opening ws slots (everyone m))) (sym words_are) (opens slot_content IsSlotOf m slots c.in_ok-slots.ensures.0 c.in_ok-slots.ensures.1)

pub new-requires-room-P-TableRule : goal.new-requires-room-P-TableRule
new-requires-room-P-TableRule g c κs = local_fits _ c.requires.capacity

pub new-requires-room-P-TableRule-2 : goal.new-requires-room-P-TableRule-2
new-requires-room-P-TableRule-2 g c κs = shared_fits _ c.requires.levels

pub drop-requires-room-T-Destruct : goal.drop-requires-room-T-Destruct
drop-requires-room-T-Destruct g c κs = shared_fits _ c.requires.levels

pub overflow_add-sizes : goal.overflow_add-sizes
overflow_add-sizes g c = omega (arith, c.requires.sizes.threads)

pub overflow_mul-sizes : goal.overflow_mul-sizes
overflow_mul-sizes g c = omega (arith, c.requires.sizes.threads)

pub parts-requires : goal.parts-requires
parts-requires g c = (local_fits _ c.requires.capacity, (shared_fits _ c.requires.levels, (c.requires.capacity, (c.requires.levels, c.requires.sizes.k))))

pub invariant_of-result : goal.invariant_of-result
invariant_of-result g c =
    let m : Sizes = c.args.sizes in
    let outcome = c.in-Ok.ensures.ok in
    let words_are : c.as_slice.result.now ≡ first_words m = c.as_slice.ensures.value ∙ ap (λ (ws : List ℕ). set ws (place (m.threads + 1)) 18446744073709551615) (c.in_ok-words.ensures.items_if_clones_equal (λ y same. same)) in
    let words : length c.as_slice.result.now ≡ place (m.threads + 2) = ap length words_are ∙ length_first m in
    let slots : length c.in_ok-slots.slots.items ≡ m.threads + 1 = c.in_ok-slots.ensures.0 in
    record { key = outcome.5; sized = (outcome.0 ∙ words, outcome.1 ∙ slots, c.requires.sizes.threads); in_range = c.requires.sizes; capacity = c.requires.capacity; levels = c.requires.levels }

pub returns : goal.returns
returns g c = let outcome = c.in-Ok.ensures.ok in (refl, outcome.2, outcome.4)
