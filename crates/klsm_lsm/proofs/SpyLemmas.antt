-- What goes to a member that spies, and what stays, by the number of blocks.
use Rattle.std.proofs.Common.{◌≡◌, ◌<◌, ◌/◌, ◌==◌, false, List, [], ◌∷◌, length, get_or, take, drop, Option, Some, None, refl, sym, ap, arith}
use Rattle.std.specs.List.{slice_get}
use Rattle.std.specs.Option.{option_map}
use Rattle.std.proofs.lemmas.Bool.{ne_eqb}
use Rattle.std.proofs.lemmas.Option.{same_Some}
use Rattle.klsm_run.specs.declared.item.Item.{Item}
use Rattle.klsm_lsm.specs.Spying.{spied, left_by_spy}

-- no block
pub none_spied : (bs : List (List Item)) → length bs ≡ 0 → (None ≡ spied bs) × (bs ≡ left_by_spy bs)
none_spied [] none = (refl, refl)
none_spied (b ∷ bs) none = absurd (omega (arith, none))

-- several blocks
pub first_spied : (bs : List (List Item)) (b : List Item) → 1 < length bs → slice_get bs 0 ≡ Some b → (Some b ≡ spied bs) × (drop 1 bs ≡ left_by_spy bs)
first_spied [] b many first = absurd (omega (arith, many))
first_spied (c ∷ []) b many first = absurd (omega (arith, many))
first_spied (c ∷ d ∷ ds) b many first = (sym first, refl)

-- the largest block, where there is not just one
pub largest_spied : (bs : List (List Item)) (given : Option (List Item)) → (length bs ≡ 1 → ⊥) → option_map (λ b. b) given ≡ slice_get bs 0 → (given ≡ spied bs) × (drop 1 bs ≡ left_by_spy bs)
largest_spied [] None not_one is = (refl, refl)
largest_spied [] (Some b) not_one is = let bad : Some b ≡ None = is in cc
largest_spied (c ∷ []) given not_one is = absurd (not_one refl)
largest_spied (c ∷ d ∷ ds) None not_one is = let bad : None ≡ Some c = is in cc
largest_spied (c ∷ d ∷ ds) (Some b) not_one is = (is, refl)

-- the only block
pub half_spied : (bs : List (List Item)) (b : List Item) → length bs ≡ 1 → slice_get bs 0 ≡ Some b → Some (drop (length b / 2) b) ≡ spied bs
half_spied [] b one first = absurd (omega (arith, one))
half_spied (c ∷ []) b one first = ap (λ (x : List Item). Some (drop (length x / 2) x)) (sym (same_Some c b first))
half_spied (c ∷ d ∷ ds) b one first = absurd (omega (arith, one))

-- the only block, of one item
pub none_left : (bs : List (List Item)) (b : List Item) → length bs ≡ 1 → slice_get bs 0 ≡ Some b → 0 < length b → length b / 2 ≡ 0 → drop 1 bs ≡ left_by_spy bs
none_left [] b one first some none = absurd (omega (arith, one))
none_left (c ∷ []) b one first some none =
    let single : length c ≡ 1 = omega (arith, ap length (same_Some c b first), some, none) in rw single refl
none_left (c ∷ d ∷ ds) b one first some none = absurd (omega (arith, one))

-- the only block, of several items
pub half_left : (bs : List (List Item)) (b : List Item) → length bs ≡ 1 → slice_get bs 0 ≡ Some b → (length b / 2 ≡ 0 → ⊥) → take (length b / 2) (get_or bs 0 []) ∷ [] ≡ left_by_spy bs
half_left [] b one first some = absurd (omega (arith, one))
half_left (c ∷ []) b one first some =
    let same : c ≡ b = same_Some c b first in
    let several : (length c == 1) ≡ false = ne_eqb (length c) 1 (λ single. some (omega (arith, ap length same, single))) in
    rw several (ap (λ (x : List Item). take (length x / 2) c ∷ []) (sym same))
half_left (c ∷ d ∷ ds) b one first some = absurd (omega (arith, one))
