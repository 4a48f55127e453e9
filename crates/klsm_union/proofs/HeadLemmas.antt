-- The least items of two ascending lists.
use Rattle.std.proofs.Common.{◌≡◌, ℕ, ◌+◌, ◌-◌, ◌<◌, ◌≤◌, List, [], ◌∷◌, ◌++◌, length, take, drop, get_or, refl, sym, ap, ◌∙◌, subst, arith, zero, suc, true, false, Bool, Option, Some, None}
use Rattle.std.specs.List.{AllByRecursion, slice_get}
use Rattle.std.proofs.lemmas.List.{append-nil, drop-drop, length-drop, take_more, take_all}
use Rattle.klsm_run.specs.declared.item.Item.{Item}
use Rattle.klsm_run.specs.ItemOrder.{is_smaller, IsSmaller}
use Rattle.klsm_run.specs.Content.{sorted, IsAscending, ShareNone}
use Rattle.klsm_run.proofs.AllLemmas.{all_weaker, all_append}
use Rattle.klsm_run.proofs.OrderLemmas.{smaller_trans, Below, Same, Above, ranked}
use Rattle.klsm_run.proofs.SortedLemmas.{sorted_ascending}
use Rattle.klsm_run.proofs.ContentLemmas.{sorted_swap}
use Rattle.klsm_run.proofs.LeastLemmas.{IsNoneBelow, not_below}
use Rattle.klsm_run.proofs.LesserLemmas.{less_if_smaller}
use Rattle.klsm_run.proofs.HalfLemmas.{ascending_drop}
use Rattle.klsm_run.proofs.UniteLemmas.{AreBelow, below_at}
use Rattle.klsm_run.proofs.FirstLemmas.{first_of_left, first_of_right, none_below_first_of}
use Rattle.klsm_union.specs.Heads.{precedes, IsBefore, IsHead}

-- by whether an item is smaller than another one
data Test (b : Bool) : Type 0 where
  Holds : b ≡ true → Test b
  Fails : b ≡ false → Test b

test : (b : Bool) → Test b
test true = Holds refl
test false = Fails refl

-- an item that comes before the first of an ascending list is not above any of it
none_below_if_before : (x : Item) (ys : List Item) → IsAscending ys → IsBefore (slice_get ys 0) x → IsNoneBelow x ys
none_below_if_before x [] up before = tt
none_below_if_before x (y ∷ ys) up before = none_below_first_of x y ys (not_below x y before) up

-- so far as the items of a list come before the first of the other one, they are the first of both
pub least_taken : (count : ℕ) (xs ys : List Item) → IsAscending xs → IsAscending ys → count ≤ length xs → AllByRecursion (IsBefore (slice_get ys 0)) (take count xs) → take count (sorted (xs ++ ys)) ≡ take count xs
least_taken zero xs ys up_xs up_ys few before = refl
least_taken (suc count) [] ys up_xs up_ys few before = absurd (omega (arith, few))
least_taken (suc count) (x ∷ xs) ys up_xs up_ys few before =
    ap (take (suc count)) (first_of_left x xs ys up_xs (none_below_if_before x ys up_ys before.0))
    ∙ ap (λ zs. x ∷ zs) (least_taken count xs ys up_xs.1 up_ys (omega (arith, few)) before.1)

-- and the others are what is left
pub least_dropped : (count : ℕ) (xs ys : List Item) → IsAscending xs → IsAscending ys → count ≤ length xs → AllByRecursion (IsBefore (slice_get ys 0)) (take count xs) → sorted (drop count xs ++ ys) ≡ drop count (sorted (xs ++ ys))
least_dropped zero xs ys up_xs up_ys few before = refl
least_dropped (suc count) [] ys up_xs up_ys few before = absurd (omega (arith, few))
least_dropped (suc count) (x ∷ xs) ys up_xs up_ys few before =
    least_dropped count xs ys up_xs.1 up_ys (omega (arith, few)) before.1
    ∙ sym (ap (drop (suc count)) (first_of_left x xs ys up_xs (none_below_if_before x ys up_ys before.0)))

-- the same of the second list
pub least_dropped_second : (count : ℕ) (xs ys : List Item) → IsAscending xs → IsAscending ys → count ≤ length ys → AllByRecursion (IsBefore (slice_get xs 0)) (take count ys) → sorted (xs ++ drop count ys) ≡ drop count (sorted (xs ++ ys))
least_dropped_second count xs ys up_xs up_ys few before =
    sorted_swap xs (drop count ys) ∙ (least_dropped count ys xs up_ys up_xs few before ∙ ap (drop count) (sorted_swap ys xs))

-- where the first list begins with the least item, that leaves
leaves_first : (xs ys : List Item) → IsAscending xs → IsAscending ys → precedes xs ys ≡ true → 0 < length xs + length ys → (0 < length xs) × (sorted (drop 1 xs ++ ys) ≡ drop 1 (sorted (xs ++ ys)))
leaves_first [] [] up_xs up_ys first some = absurd (omega (arith, some))
leaves_first [] (y ∷ ys) up_xs up_ys first some = let bad : false ≡ true = first in cc
leaves_first (x ∷ xs) [] up_xs up_ys first some = (omega arith, sym (ap (drop 1) (first_of_left x xs [] up_xs tt)))
leaves_first (x ∷ xs) (y ∷ ys) up_xs up_ys first some = elim (test (is_smaller y x)) [
  | Holds smaller ↦ let bad : false ≡ true = rw smaller at first in cc
  | Fails not_smaller ↦ (omega arith, sym (ap (drop 1) (first_of_left x xs (y ∷ ys) up_xs (none_below_first_of x y ys not_smaller up_ys))))
]

-- and else the first of the other list
leaves_second : (xs ys : List Item) → IsAscending xs → IsAscending ys → precedes xs ys ≡ false → (0 < length ys) × (sorted (xs ++ drop 1 ys) ≡ drop 1 (sorted (xs ++ ys)))
leaves_second xs [] up_xs up_ys second = let bad : true ≡ false = second in cc
leaves_second [] (y ∷ ys) up_xs up_ys second = (omega arith, sym (ap (drop 1) (first_of_right [] ys y up_ys tt)))
leaves_second (x ∷ xs) (y ∷ ys) up_xs up_ys second = elim (test (is_smaller y x)) [
  | Holds smaller ↦ (omega arith, sym (ap (drop 1) (first_of_right (x ∷ xs) ys y up_ys (none_below_first_of y x xs (not_below y x (less_if_smaller y x smaller)) up_xs))))
  | Fails not_smaller ↦ let bad : true ≡ false = rw not_smaller at second in cc
]

-- so many items of both lists have left, the least first
pub record IsCounted (left right : List Item) (i j : ℕ) : Type 0 where
  pub left_in : i ≤ length left
  pub right_in : j ≤ length right
  pub rest : sorted (drop i left ++ drop j right) ≡ drop (i + j) (sorted (left ++ right))

pub counted_first : (left right : List Item) → IsCounted left right 0 0
counted_first left right = record { left_in = omega arith; right_in = omega arith; rest = refl }

-- what is left of a list, as the code cuts it out
rest_cut : (i : ℕ) (xs : List Item) → take (length xs - i) (drop i xs) ≡ drop i xs
rest_cut i xs = take_all (length xs - i) (drop i xs) (omega (arith, length-drop i xs))

pub precedes_cut : (left right : List Item) (i j : ℕ) (b : Bool) → precedes (take (length left - i) (drop i left)) (take (length right - j) (drop j right)) ≡ b → precedes (drop i left) (drop j right) ≡ b
precedes_cut left right i j b cut = ap (λ xs. precedes xs (drop j right)) (sym (rest_cut i left)) ∙ (ap (precedes (take (length left - i) (drop i left))) (sym (rest_cut j right)) ∙ cut)

-- one more of the left list
pub counted_left : (left right : List Item) (i j : ℕ) → IsAscending left → IsAscending right → i + j < length left + length right → precedes (drop i left) (drop j right) ≡ true → IsCounted left right i j → IsCounted left right (i + 1) j
counted_left left right i j up_left up_right less first h =
    let step = leaves_first (drop i left) (drop j right) (ascending_drop i left up_left) (ascending_drop j right up_right) first (omega (arith, length-drop i left, length-drop j right, h.left_in, h.right_in, less)) in
    let places : i + j + 1 ≡ i + 1 + j = omega arith in
    record {
      left_in = omega (arith, step.0, length-drop i left);
      right_in = h.right_in;
      rest = ap (λ xs. sorted (xs ++ drop j right)) (sym (drop-drop 1 i left)) ∙ (step.1 ∙ (ap (drop 1) h.rest ∙ (drop-drop 1 (i + j) (sorted (left ++ right)) ∙ ap (λ n. drop n (sorted (left ++ right))) places)));
    }

pub counted_right : (left right : List Item) (i j : ℕ) → IsAscending left → IsAscending right → precedes (drop i left) (drop j right) ≡ false → IsCounted left right i j → IsCounted left right i (j + 1)
counted_right left right i j up_left up_right second h =
    let step = leaves_second (drop i left) (drop j right) (ascending_drop i left up_left) (ascending_drop j right up_right) second in
    let places : i + j + 1 ≡ i + (j + 1) = omega arith in
    record {
      left_in = h.left_in;
      right_in = omega (arith, step.0, length-drop j right);
      rest = ap (λ ys. sorted (drop i left ++ ys)) (sym (drop-drop 1 j right)) ∙ (step.1 ∙ (ap (drop 1) h.rest ∙ (drop-drop 1 (i + j) (sorted (left ++ right)) ∙ ap (λ n. drop n (sorted (left ++ right))) places)));
    }

-- if the last of the first items of an ascending list comes before another one, they all do
pub before_by_last : (xs : List Item) (next : Option Item) (count : ℕ) (d : Item) → count < length xs → IsAscending xs → IsBefore next (get_or xs count d) → AllByRecursion (IsBefore next) (take (count + 1) xs)
before_by_last xs next count d within up before =
    subst (AllByRecursion (IsBefore next)) (sym (take_more xs count d within))
    (all_append (IsBefore next) (take count xs) (get_or xs count d ∷ []) (all_before next (get_or xs count d) before (take count xs) (below_at xs count d within up)) (before, tt))
  where
    all_before : (next : Option Item) (x : Item) → IsBefore next x → (xs : List Item) → AreBelow x xs → AllByRecursion (IsBefore next) xs
    all_before None x before xs below = all_weaker (λ y. IsSmaller y x) (IsBefore None) (λ y less. tt) xs below
    all_before (Some z) x before xs below = all_weaker (λ y. IsSmaller y x) (IsBefore (Some z)) (λ y less. smaller_trans y x z less before) xs below

-- the same by a comparison
pub before_by_test : (xs ys : List Item) (count : ℕ) (d : Item) → 0 < count → count ≤ length xs → 0 < length ys → IsAscending xs → is_smaller (get_or xs (count - 1) d) (get_or ys 0 d) ≡ true → AllByRecursion (IsBefore (slice_get ys 0)) (take count xs)
before_by_test xs [] count d some few there up smaller = absurd (omega (arith, there))
before_by_test xs (y ∷ ys) count d some few there up smaller =
    let places : count - 1 + 1 ≡ count = omega (arith, some) in
    subst (λ n. AllByRecursion (IsBefore (Some y)) (take n xs)) places
    (before_by_last xs (Some y) (count - 1) d (omega (arith, some, few)) up (less_if_smaller (get_or xs (count - 1) d) y smaller))

pub none_before : (xs : List Item) → AllByRecursion (IsBefore None) xs
none_before [] = tt
none_before (x ∷ xs) = (tt, none_before xs)

-- the first list as the head of both
pub head_first : (xs ys : List Item) → IsAscending xs → IsAscending ys → ShareNone xs ys → precedes xs ys ≡ true → IsHead xs (slice_get ys 0) (sorted (xs ++ ys))
head_first xs ys up_xs up_ys apart first = record {
  first = first_is xs ys up_xs up_ys first;
  before_next = before_next_is xs ys apart first;
  least = λ count few before. least_taken count xs ys up_xs up_ys few before;
  all = all_is xs ys up_xs;
}
  where
    first_is : (xs ys : List Item) → IsAscending xs → IsAscending ys → precedes xs ys ≡ true → slice_get xs 0 ≡ slice_get (sorted (xs ++ ys)) 0
    first_is [] [] up_xs up_ys first = refl
    first_is [] (y ∷ ys) up_xs up_ys first = let bad : false ≡ true = first in cc
    first_is (x ∷ xs) [] up_xs up_ys first = sym (ap (λ zs. slice_get zs 0) (first_of_left x xs [] up_xs tt))
    first_is (x ∷ xs) (y ∷ ys) up_xs up_ys first = elim (test (is_smaller y x)) [
      | Holds smaller ↦ let bad : false ≡ true = rw smaller at first in cc
      | Fails not_smaller ↦ sym (ap (λ zs. slice_get zs 0) (first_of_left x xs (y ∷ ys) up_xs (none_below_first_of x y ys not_smaller up_ys)))
    ]

    before_next_is : (xs ys : List Item) → ShareNone xs ys → precedes xs ys ≡ true → AllByRecursion (IsBefore (slice_get ys 0)) (take 1 xs)
    before_next_is [] ys apart first = tt
    before_next_is (x ∷ xs) [] apart first = (tt, tt)
    before_next_is (x ∷ xs) (y ∷ ys) apart first = elim (ranked x y) [
      | Below less greater ↦ (less, tt)
      | Same same ↦ absurd (apart x (0, omega arith, refl) (0, omega arith, sym same))
      | Above greater less ↦ let bad : false ≡ true = rw less at first in cc
    ]

    all_is : (xs ys : List Item) → IsAscending xs → slice_get ys 0 ≡ None → xs ≡ sorted (xs ++ ys)
    all_is xs [] up none = sym (ap sorted (append-nil xs) ∙ sorted_ascending xs up)
    all_is xs (y ∷ ys) up none = let bad : Some y ≡ None = none in cc

-- and else the other one
precedes_other : (xs ys : List Item) → precedes xs ys ≡ false → precedes ys xs ≡ true
precedes_other xs [] second = let bad : true ≡ false = second in cc
precedes_other [] (y ∷ ys) second = refl
precedes_other (x ∷ xs) (y ∷ ys) second = elim (test (is_smaller y x)) [
  | Holds smaller ↦ rw (not_below y x (less_if_smaller y x smaller)) refl
  | Fails not_smaller ↦ let bad : true ≡ false = rw not_smaller at second in cc
]

pub head_second : (xs ys : List Item) → IsAscending xs → IsAscending ys → ShareNone xs ys → precedes xs ys ≡ false → IsHead ys (slice_get xs 0) (sorted (xs ++ ys))
head_second xs ys up_xs up_ys apart second =
    subst (IsHead ys (slice_get xs 0)) (sorted_swap ys xs) (head_first ys xs up_ys up_xs (λ x in_ys in_xs. apart x in_xs in_ys) (precedes_other xs ys second))
