-- Sums over the things selected.
use Rattle.std.proofs.Common.{◌≡◌, ℕ, zero, suc, ◌+◌, ◌*◌, ◌/◌, ◌%◌, ◌^◌, ◌<◌, ◌≤◌, ◌==◌, if◌then◌else◌, List, [], ◌∷◌, length, drop, get_or, drop-cons, Bool, true, false, refl, sym, ◌∙◌, arith, zero-add, inl, inr}
use Rattle.std.specs.List.{AllByRecursion, sum_by}
use Rattle.std.proofs.lemmas.List.Sums.{sum_by-cons}
use Rattle.std.proofs.Math.Nat.{mod-one, div-one}
use Rattle.std.proofs.lemmas.Bool.{cases_eq}
use Rattle.klsm_instance.specs.declared.thing.Thing.{Thing}
use Rattle.klsm_instance.specs.Selections.{sum_selected}
use Rattle.klsm_instance.proofs.BitLemmas.{low_bit, low_half, high_half, with_bit_low, with_bit_high}

pub sum_none : (f : Thing → ℕ) (xs : List Thing) → sum_selected f xs 0 ≡ 0
sum_none f [] = refl
sum_none f (x ∷ xs) = omega (arith, sum_none f xs)

-- a selection is its choices of the first l things, and those of the others
pub sum_split : (f : Thing → ℕ) (l : ℕ) (xs : List Thing) (s : ℕ) → sum_selected f xs s ≡ sum_selected f xs (s % 2 ^ l) + sum_selected f (drop l xs) (s / 2 ^ l)
sum_split f zero xs s = rw (mod-one s, div-one s, sum_none f xs) (sym (zero-add _))
sum_split f (suc l) [] s = refl
sum_split f (suc l) (x ∷ xs) s = rw (low_bit l s, low_half l s, high_half l s) (omega (arith, sum_split f l xs (s / 2)))

-- with one thing more
pub sum_with : (f : Thing → ℕ) (l q : ℕ) (xs : List Thing) (x : Thing) (ys : List Thing) → q < 2 ^ l → drop l xs ≡ x ∷ ys → sum_selected f xs (q + 2 ^ l) ≡ sum_selected f xs q + f x
sum_with f l q xs x ys lt e = sum_split f l xs (q + 2 ^ l) ∙ rw (with_bit_low l q lt, with_bit_high l q lt, e) (omega (arith, sum_none f ys))

-- no selection is above the sum of all
pub sum_all : (f : Thing → ℕ) (xs : List Thing) (s : ℕ) → sum_selected f xs s ≤ sum_by f xs
sum_all f [] s = omega arith
sum_all f (x ∷ xs) s = rw (sum_by-cons f x xs) (by_bit (s % 2 == 1) (sum_all f xs (s / 2)))
  where
    by_bit : (b : Bool) → sum_selected f xs (s / 2) ≤ sum_by f xs → (if b then f x else 0) + sum_selected f xs (s / 2) ≤ f x + sum_by f xs
    by_bit true le = omega arith
    by_bit false le = omega arith

-- what holds of two sums at each thing holds of the selected
pub sum_weighed : (v w : ℕ) (xs : List Thing) (s : ℕ) → AllByRecursion (λ x. x.value * w ≤ v * x.weight) xs → sum_selected (λ x. x.value) xs s * w ≤ v * sum_selected (λ x. x.weight) xs s
sum_weighed v w [] s all = omega arith
sum_weighed v w (x ∷ xs) s all = by_bit (s % 2 == 1) (sum_weighed v w xs (s / 2) all.1)
  where
    by_bit : (b : Bool) → sum_selected (λ y. y.value) xs (s / 2) * w ≤ v * sum_selected (λ y. y.weight) xs (s / 2) → ((if b then x.value else 0) + sum_selected (λ y. y.value) xs (s / 2)) * w ≤ v * ((if b then x.weight else 0) + sum_selected (λ y. y.weight) xs (s / 2))
    by_bit true le = omega (arith, all.0)
    by_bit false le = omega arith

pub sum_small : (f : Thing → ℕ) (m : ℕ) (xs : List Thing) → AllByRecursion (λ x. f x ≤ m) xs → sum_by f xs ≤ m * length xs
sum_small f m [] all = omega arith
sum_small f m (x ∷ xs) all = rw (sum_by-cons f x xs) (omega (arith, all.0, sum_small f m xs all.1))

-- the next thing of those from i on, taken or left
pub sum_taking : (f : Thing → ℕ) (xs : List Thing) (i s : ℕ) (d : Thing) → i < length xs → s % 2 ≡ 1 → sum_selected f (drop i xs) s ≡ f (get_or xs i d) + sum_selected f (drop (i + 1) xs) (s / 2)
sum_taking f xs i s d lt taken =
    let after : i + 1 ≡ suc i = omega arith in
    rw (drop-cons xs i d lt, after, taken) refl

pub sum_leaving : (f : Thing → ℕ) (xs : List Thing) (i s : ℕ) (d : Thing) → i < length xs → (s % 2 ≡ 1 → ⊥) → sum_selected f (drop i xs) s ≡ sum_selected f (drop (i + 1) xs) (s / 2)
sum_leaving f xs i s d lt left =
    let after : i + 1 ≡ suc i = omega arith in
    let even : s % 2 ≡ 0 = omega arith in
    rw (drop-cons xs i d lt, after, even) (zero-add _)

-- either way, by the bit of the thing
pub sum_next : (f : Thing → ℕ) (xs : List Thing) (i s : ℕ) (d : Thing) → i < length xs → sum_selected f (drop i xs) s ≡ s % 2 * f (get_or xs i d) + sum_selected f (drop (i + 1) xs) (s / 2)
sum_next f xs i s d lt = elim (cases_eq (s % 2) 1) [
  | inl taken ↦ rw taken (omega (arith, sum_taking f xs i s d lt taken))
  | inr left ↦ let none : s % 2 ≡ 0 = omega (arith, left) in rw none (omega (arith, sum_leaving f xs i s d lt left))
]
