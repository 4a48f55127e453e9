-- What cutting leaves where the block goes, where it becomes one with the next, and where it stays.
use Rattle.std.proofs.Common.{◌≡◌, ℕ, ◌+◌, ◌-◌, ◌<◌, ◌≤◌, ◌^◌, ◌%◌, ◌*◌, List, [], ◌∷◌, ◌++◌, length, remove, set, get_or, refl, ap, ◌∙◌, arith, add-one, zero, suc, inl, inr}
use Rattle.std.proofs.lemmas.Bool.{cases_lt, cases_eq, eq-eqb, ne_eqb, lt-ltb, le-ltb}
use Rattle.std.proofs.Math.Nat.{mod-eq_of_lt}
use Rattle.std.proofs.Math.Pow.{pow-lt, pow_mono}
use Rattle.klsm_run.specs.declared.item.Item.{Item}
use Rattle.klsm_run.specs.Content.{sorted}
use Rattle.klsm_lsm.specs.Level.{least_level, level}
use Rattle.klsm_lsm.specs.Lsm.{IsLsm}
use Rattle.klsm_lsm.specs.Adding.{without_items, cut_items}
use Rattle.klsm_lsm.specs.Places.{JoinsNext, cut_together, cut_alone}
use Rattle.klsm_lsm.specs.Slots.{with_block}
use Rattle.klsm_lsm.proofs.CutLemmas.{length_without}
use Rattle.klsm_lsm.proofs.LevelLemmas.{level_least, level_enough}
use Rattle.klsm_lsm.proofs.PlaceLemmas.{level_next}

-- a shift that loses no bit
pub shifted_one : (l : ℕ) → l < 64 → 1 * 2 ^ l % 2 ^ 64 ≡ 2 ^ l
shifted_one l small = let fits : 2 ^ l < 2 ^ 64 = pow-lt small in let one : 1 * 2 ^ l ≡ 2 ^ l = omega arith in ap (λ n. n % 2 ^ 64) one ∙ mod-eq_of_lt fits

-- the level l of the next block, where a block has n items
pub next_level : (bs : List (List Item)) (block n l : ℕ) → IsLsm bs → block + 1 < length bs → n < 2 ^ 64 → n ≡ length (get_or bs block []) → l ≡ level (get_or bs (block + 1) []) → l < 64
next_level bs block n l lsm within fits count is =
    let next : level (get_or bs (block + 1) []) < level (get_or bs block []) = rw add-one (level_next bs block lsm (rw add-one at within)) in
    let lower : l < least_level n = rw (count, is) next in
    omega (arith, level_least n 64 (omega (arith, fits)), lower)

-- the test: `left` items are no more than a whole block of level l has
pub joins_if_few : (left l whole : ℕ) → whole ≡ 2 ^ l → left ≤ whole → least_level left ≤ l
joins_if_few left l whole is few = level_least left l (omega (arith, is, few))

pub few_if_joins : (left l whole : ℕ) → whole ≡ 2 ^ l → least_level left ≤ l → left ≤ whole
few_if_joins left l whole is less =
    let fits : 2 ^ least_level left ≤ 2 ^ l = pow_mono less in
    omega (arith, is, fits, level_enough left)

-- a block that loses all goes
pub cut_all : (bs : List (List Item)) (at from count : ℕ) → at < length bs → length (get_or bs at []) ≡ count → cut_items bs at from count ≡ remove bs at
cut_all [] at from count within all = absurd (omega (arith, within))
cut_all (b ∷ bs) zero from count within all = rw (eq-eqb (length b) count all) refl
cut_all (b ∷ bs) (suc at) from count within all = ap (λ cs. b ∷ cs) (cut_all bs at from count (omega (arith, within)) all)

level_without : (b : List Item) (from count : ℕ) → from + count ≤ length b → level (without_items b from count) ≡ least_level (length b - count)
level_without b from count within = ap least_level (length_without b from count within)

-- where what is left is of no greater level than the next block the two become one
cut_merging : (bs : List (List Item)) (at from count : ℕ) → suc at < length bs → count < length (get_or bs at []) → from + count ≤ length (get_or bs at []) → least_level (length (get_or bs at []) - count) ≤ level (get_or bs (suc at) [])
    → cut_items bs at from count ≡ with_block bs at (suc (suc at)) (sorted (without_items (get_or bs at []) from count ++ get_or bs (suc at) []))
cut_merging [] at from count within left inside order = absurd (omega (arith, within))
cut_merging (b ∷ []) at from count within left inside order = absurd (omega (arith, within))
cut_merging (b ∷ c ∷ cs) zero from count within left inside order =
    rw (ne_eqb (length b) count (λ all. omega (arith, left, all)), le-ltb (level c) (level (without_items b from count)) (omega (arith, level_without b from count inside, order))) refl
cut_merging (b ∷ c ∷ cs) (suc at) from count within left inside order = ap (λ ds. b ∷ ds) (cut_merging (c ∷ cs) at from count (omega (arith, within)) left inside order)

-- else it stays
cut_staying : (bs : List (List Item)) (at from count : ℕ) → at < length bs → (length (get_or bs at []) ≡ count → ⊥) → from + count ≤ length (get_or bs at []) → (suc at < length bs → level (get_or bs (suc at) []) < least_level (length (get_or bs at []) - count))
    → cut_items bs at from count ≡ set bs at (without_items (get_or bs at []) from count)
cut_staying [] at from count within some inside above = absurd (omega (arith, within))
cut_staying (b ∷ []) zero from count within some inside above = rw (ne_eqb (length b) count some) refl
cut_staying (b ∷ c ∷ cs) zero from count within some inside above =
    rw (ne_eqb (length b) count some, lt-ltb (level c) (level (without_items b from count)) (omega (arith, level_without b from count inside, above (omega arith)))) refl
cut_staying (b ∷ bs) (suc at) from count within some inside above = ap (λ cs. b ∷ cs) (cut_staying bs at from count (omega (arith, within)) some inside (λ next. above (omega (arith, next))))

-- two blocks that become one
pub cut_joins : (bs : List (List Item)) (at from count : ℕ) → JoinsNext bs at count → from + count ≤ length (get_or bs at []) → cut_items bs at from count ≡ cut_together bs at from count
cut_joins bs at from count joins inside =
    let two : at + 2 ≡ suc (suc at) = omega arith in
    rw (two, add-one) (cut_merging bs at from count (rw add-one at joins.within) joins.some_left inside (rw add-one at joins.no_greater))

-- a block that becomes one with no other, of which some is left
pub cut_stays : (bs : List (List Item)) (at from count : ℕ) → at < length bs → (JoinsNext bs at count → ⊥) → from + count ≤ length (get_or bs at []) → (length (get_or bs at []) ≡ count → ⊥) → cut_items bs at from count ≡ set bs at (without_items (get_or bs at []) from count)
cut_stays bs at from count within alone inside some =
    let b = get_or bs at [] in
    cut_staying bs at from count within some inside (λ next. elim (cases_lt (level (get_or bs (suc at) [])) (least_level (length b - count))) [
      | inl above ↦ above
      | inr order ↦ absurd (alone record { within = omega (arith, next); some_left = omega (arith, inside, some); no_greater = rw add-one order })
    ])

-- or not
pub cut_is_alone : (bs : List (List Item)) (at from count : ℕ) → at < length bs → (JoinsNext bs at count → ⊥) → from + count ≤ length (get_or bs at []) → cut_items bs at from count ≡ cut_alone bs at from count
cut_is_alone bs at from count within alone inside = elim (cases_eq (length (get_or bs at [])) count) [
  | inl all ↦ rw (eq-eqb (length (get_or bs at [])) count all) (cut_all bs at from count within all)
  | inr some ↦ rw (ne_eqb (length (get_or bs at [])) count some) (cut_stays bs at from count within alone inside some)
]
