-- Ranks: how many items of a content a deletion skips, by the place of its item in the sorted list, and for two contents together.
use Rattle.std.proofs.Common.{◌≡◌, ℕ, ◌+◌, ◌<◌, ◌≤◌, Bool, true, false, List, [], ◌∷◌, ◌++◌, length, take, drop, cond, Option, Some, None, refl, sym, ap, ◌∙◌, subst, arith, if◌then◌else◌, zero, suc}
use Rattle.std.specs.List.{AllByRecursion, slice_get, sum_by, count_by}
use Rattle.std.specs.Ordering.{is_lt}
use Rattle.std.proofs.lemmas.List.Sums.{sum_by-cons, sum_by-append}
use Rattle.std.proofs.lemmas.Option.{none-some, same_Some}
use Rattle.klsm_run.specs.declared.item.Item.{Item}
use Rattle.klsm_run.specs.ItemOrder.{is_smaller, IsSmaller}
use Rattle.klsm_run.specs.Content.{placed, sorted, skipped, IsAscending}
use Rattle.klsm_run.proofs.SortedLemmas.{sorted_ascending, length_sorted, all_placed}
use Rattle.klsm_run.proofs.AllLemmas.{all_weaker}
use Rattle.klsm_run.proofs.ContentLemmas.{not_smaller_itself}
use Rattle.klsm_run.proofs.LesserLemmas.{lesser, less_if_smaller, not_smaller_trans, first_placed}
use Rattle.klsm_run.proofs.IndexLemmas.{slice_get-drop, taken_at, at_index, all_by_index, at_each}
use Rattle.klsm_run.proofs.LeastLemmas.{IsNoneBelow, not_below, skipped_none, skipped_first}

sum_placed : (f : Item → ℕ) (x : Item) (ys : List Item) → sum_by f (placed x ys) ≡ f x + sum_by f ys
sum_placed f x [] = sum_by-cons f x []
sum_placed f x (y ∷ ys) = elim (is_smaller y x) as (λ b. sum_by f (if b then y ∷ placed x ys else x ∷ y ∷ ys) ≡ f x + sum_by f (y ∷ ys)) [
  | true ↦ omega (arith, sum_by-cons f y (placed x ys), sum_placed f x ys, sum_by-cons f y ys)
  | false ↦ sum_by-cons f x (y ∷ ys)
]

sum_sorted : (f : Item → ℕ) (c : List Item) → sum_by f (sorted c) ≡ sum_by f c
sum_sorted f [] = refl
sum_sorted f (x ∷ c) = sum_placed f x (sorted c) ∙ (ap (λ n. f x + n) (sum_sorted f c) ∙ sym (sum_by-cons f x c))

-- a count of items that all pass, and of items of which none passes
pub count_all : {X : Type 0} (p : X → Bool) → (xs : List X) → AllByRecursion (λ x. p x ≡ true) xs → count_by p xs ≡ length xs
count_all p [] all = refl
count_all p (x ∷ xs) all =
    sum_by-cons (λ y. cond (p y) 1 0) x xs ∙ (ap (λ b. cond b 1 0 + count_by p xs) all.0 ∙ omega (arith, count_all p xs all.1))

pub count_none : {X : Type 0} (p : X → Bool) → (xs : List X) → AllByRecursion (λ x. p x ≡ false) xs → count_by p xs ≡ 0
count_none p [] none = refl
count_none p (x ∷ xs) none =
    sum_by-cons (λ y. cond (p y) 1 0) x xs ∙ (ap (λ b. cond b 1 0 + count_by p xs) none.0 ∙ omega (arith, count_none p xs none.1))

-- a count does not depend on the order of a list
pub count_sorted : (p : Item → Bool) (c : List Item) → count_by p (sorted c) ≡ count_by p c
count_sorted p c = sum_sorted (λ x. cond (p x) 1 0) c

-- one more item is smaller, or is not
skipped_more : (y : Item) (c : List Item) (x : Item) → skipped (y ∷ c) x ≡ cond (is_smaller y x) 1 0 + skipped c x
skipped_more y c x = sum_by-cons (λ z. cond (is_smaller z x) 1 0) y c

skipped_in_order : (xs : List Item) (i : ℕ) (x : Item) → IsAscending xs → slice_get xs i ≡ Some x → skipped xs x ≡ i
skipped_in_order [] i x up found = absurd (none-some x found)
skipped_in_order (y ∷ ys) zero x up found = subst (λ z. skipped (y ∷ ys) z ≡ 0) (same_Some y x found) (skipped_first y ys (y ∷ ys) (sorted_ascending (y ∷ ys) up) up)
skipped_in_order (y ∷ ys) (suc i) x up found =
    let less : is_smaller y x ≡ true = ap is_lt (at_each (IsSmaller y) ys i x up.0 found) in
    skipped_more y ys x ∙ (ap (λ b. cond b 1 0 + skipped ys x) less ∙ omega (arith, skipped_in_order ys i x up.1 found))

-- a deletion of the item at a place of the sorted list skips all before it
pub skipped_at : (c : List Item) (i : ℕ) (x : Item) → IsAscending (sorted c) → slice_get (sorted c) i ≡ Some x → skipped c x ≡ i
skipped_at c i x up found = sym (count_sorted (λ y. is_smaller y x) c) ∙ skipped_in_order (sorted c) i x up found

-- each item is smaller than none before it: a sorted list, which may have an item twice
abbrev pub IsRising : List Item → Type 0
IsRising [] = Unit {0}
IsRising (x ∷ xs) = IsNoneBelow x xs × IsRising xs

rising_placed : (x : Item) (ys : List Item) → IsRising ys → IsRising (placed x ys)
rising_placed x [] up = (tt, tt)
rising_placed x (y ∷ ys) up = by_test (is_smaller y x) refl (rising_placed x ys up.1)
  where
    by_test : (b : Bool) → is_smaller y x ≡ b → IsRising (placed x ys) → IsRising (if b then y ∷ placed x ys else x ∷ y ∷ ys)
    by_test true smaller later = (all_placed (λ z. is_smaller z y ≡ false) x ys (not_below y x (less_if_smaller y x smaller)) up.0, later)
    by_test false not_smaller later = ((not_smaller, all_weaker (λ z. is_smaller z y ≡ false) (λ z. is_smaller z x ≡ false) (λ z no. not_smaller_trans x y z not_smaller no) ys up.0), up)

-- a sorted list rises
pub rising_sorted : (c : List Item) → IsRising (sorted c)
rising_sorted [] = tt
rising_sorted (x ∷ c) = rising_placed x (sorted c) (rising_sorted c)

at_most_counted : (b : Bool) → cond b 1 0 ≤ 1
at_most_counted true = omega arith
at_most_counted false = omega arith

skipped_rising : (xs : List Item) (i : ℕ) (x : Item) → IsRising xs → slice_get xs i ≡ Some x → skipped xs x ≤ i
skipped_rising [] i x up found = absurd (none-some x found)
skipped_rising (y ∷ ys) zero x up found =
    let none : skipped (y ∷ ys) y ≡ 0 = skipped_none y (y ∷ ys) (not_smaller_itself y y refl, up.0) in
    let same : skipped (y ∷ ys) x ≡ 0 = subst (λ z. skipped (y ∷ ys) z ≡ 0) (same_Some y x found) none in
    omega (arith, same)
skipped_rising (y ∷ ys) (suc i) x up found = omega (arith, skipped_more y ys x, at_most_counted (is_smaller y x), skipped_rising ys i x up.1 found)

-- and at most all before it, also where the content has an item twice
pub skipped_at_most : (c : List Item) (i : ℕ) (x : Item) → slice_get (sorted c) i ≡ Some x → skipped c x ≤ i
skipped_at_most c i x found = rw (← count_sorted (λ y. is_smaller y x) c) (skipped_rising (sorted c) i x (rising_sorted c) found)

-- what a deletion skips of two contents
pub skipped_append : (c d : List Item) (x : Item) → skipped (c ++ d) x ≡ skipped c x + skipped d x
skipped_append c d x = sum_by-append (λ y. cond (is_smaller y x) 1 0) c d

at_most_one : (b c : Bool) → (c ≡ false → b ≡ false) → cond b 1 0 ≤ cond c 1 0
at_most_one true true h = omega arith
at_most_one false c h = omega arith
at_most_one true false h = let bad : true ≡ false = h refl in cc

-- a deletion of an item skips at most what one of an item that is not smaller skips
pub skipped_not_above : (x y : Item) (c : List Item) → is_smaller y x ≡ false → skipped c x ≤ skipped c y
skipped_not_above x y [] not_smaller = omega arith
skipped_not_above x y (z ∷ c) not_smaller =
    omega (arith, skipped_more z c x, skipped_more z c y, skipped_not_above x y c not_smaller, at_most_one (is_smaller z x) (is_smaller z y) (λ no. not_smaller_trans x y z not_smaller no))

-- each of the least n items skips fewer than n
pub least_skip_few : (n : ℕ) (c : List Item) → IsAscending (sorted c) → AllByRecursion (λ x. skipped c x < n) (take n (sorted c))
least_skip_few n c up = all_by_index (λ x. skipped c x < n) (take n (sorted c)) (λ i x found.
    let there = taken_at n (sorted c) i x found in omega (arith, there.0, skipped_at c i x up there.1))

-- each of the others skips at least n
pub rest_skip_many : (n : ℕ) (c : List Item) → IsAscending (sorted c) → AllByRecursion (λ x. n ≤ skipped c x) (drop n (sorted c))
rest_skip_many n c up = all_by_index (λ x. n ≤ skipped c x) (drop n (sorted c)) (λ i x found.
    omega (arith, skipped_at c (n + i) x up (sym (slice_get-drop n (sorted c) i) ∙ found)))

-- a content whose sorted list has no first item is empty
pub empty_if_no_least : (c : List Item) → slice_get (sorted c) 0 ≡ None → c ≡ []
empty_if_no_least [] none = refl
empty_if_no_least (x ∷ c) none =
    let first = at_index (sorted (x ∷ c)) 0 (omega (arith, length_sorted (x ∷ c))) in
    absurd (none-some first.0 (sym none ∙ first.1))

none_below_item : (y z x : Item) (ys : List Item) (b : Bool) → is_smaller z y ≡ b → IsNoneBelow z ys → Some (if b then z else y) ≡ Some x → IsNoneBelow x (y ∷ ys)
none_below_item y z x ys true smaller low is = subst (λ w. IsNoneBelow w (y ∷ ys)) (same_Some z x is) (not_below z y (less_if_smaller z y smaller), low)
none_below_item y z x ys false not_smaller low is =
    subst (λ w. IsNoneBelow w (y ∷ ys)) (same_Some y x is)
    (not_smaller_itself y y refl, all_weaker (λ w. is_smaller w z ≡ false) (λ w. is_smaller w y ≡ false) (λ w no. not_smaller_trans y z w not_smaller no) ys low)

none_below_lesser : (y x : Item) (ys : List Item) (o : Option Item) → slice_get (sorted ys) 0 ≡ o → ((z : Item) → slice_get (sorted ys) 0 ≡ Some z → IsNoneBelow z ys) → lesser (Some y) o ≡ Some x → IsNoneBelow x (y ∷ ys)
none_below_lesser y x ys None none later is = subst (λ zs. IsNoneBelow x (y ∷ zs)) (sym (empty_if_no_least ys none)) (not_smaller_itself x y (same_Some y x is), tt)
none_below_lesser y x ys (Some z) first later is = none_below_item y z x ys (is_smaller z y) refl (later z first) is

-- no item of a content is smaller than its least
pub none_below_least : (x : Item) (c : List Item) → slice_get (sorted c) 0 ≡ Some x → IsNoneBelow x c
none_below_least x [] first = absurd (none-some x first)
none_below_least x (y ∷ ys) first =
    none_below_lesser y x ys (slice_get (sorted ys) 0) refl (λ z later. none_below_least z ys later) (sym (first_placed y (sorted ys)) ∙ first)

-- a deletion of the least item skips none
pub least_skips_none : (x : Item) (c : List Item) → slice_get (sorted c) 0 ≡ Some x → skipped c x ≡ 0
least_skips_none x c first = skipped_none x c (none_below_least x c first)
