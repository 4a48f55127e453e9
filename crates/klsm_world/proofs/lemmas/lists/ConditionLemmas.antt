-- What tests on the items of parts say of the conditions of events.
use Rattle.std.proofs.Common.{◌≡◌, ◌≢◌, ◌+◌, ◌<◌, ◌≤◌, ◌==◌, Bool, true, false, not, ◌||◌, List, [], ◌∷◌, length, refl, sym, ap, ◌∙◌, subst, arith, inl, inr}
use Rattle.std.specs.List.{AllByRecursion, list_any}
use Rattle.std.proofs.lemmas.Bool.{eqb-true, eq-eqb}
use Rattle.std.proofs.lemmas.List.{nil_from_length}
use Rattle.klsm_run.specs.declared.item.Item.{Item}
use Rattle.klsm_run.specs.ItemOrder.{IsSmaller}
use Rattle.klsm_run.specs.Content.{IsAscending}
use Rattle.klsm_run.proofs.AllLemmas.{all_weaker}
use Rattle.klsm_run.proofs.IndexLemmas.{all_by_index, at_each, contains_at, index_of}
use Rattle.klsm_run.proofs.OrderLemmas.{not_smaller_than_itself}
use Rattle.klsm_run.proofs.WithoutLemmas.{has_or_new, same_or_other}
use Rattle.klsm_run.proofs.SortedLemmas.{IsNew}
use Rattle.klsm_parts.specs.Events.{times, plus, minus, IsWithin}
use Rattle.klsm_schedules.proofs.lemmas.lists.EqualLemmas.{are_equal, equal_itself, same_if_equal}
use Rattle.klsm_schedules.proofs.lemmas.counts.EventCountLemmas.{times_has, times_more, times_itself, times_other, times_new, times_contained, contained_if_counted, times_plus, length_plus, length_minus, within_counted}

-- items with other fields are not
pub other_if_not_equal : (x y : Item) → are_equal x y ≡ false → x ≢ y
other_if_not_equal x y not_equal same = let bad : true ≡ false = sym (equal_itself y) ∙ subst (λ z. are_equal z y ≡ false) same not_equal in cc

-- the same of the test for other fields
pub other_if_unequal : (x y : Item) → true ≡ not (are_equal x y) → x ≢ y
other_if_unequal x y unequal = by_test (are_equal x y) refl unequal
  where
    by_test : (b : Bool) → are_equal x y ≡ b → true ≡ not b → x ≢ y
    by_test true is unequal = cc
    by_test false is unequal = other_if_not_equal x y is

-- an item is counted where a test for it finds one
pub counted_if_found : (x : Item) (c : List Item) → list_any (λ y. are_equal y x) c ≡ true → 0 < times x c
counted_if_found x [] found = cc
counted_if_found x (y ∷ c) found = by_test (are_equal y x) refl (λ later. counted_if_found x c later) found
  where
    by_test : (b : Bool) → are_equal y x ≡ b → (list_any (λ z. are_equal z x) c ≡ true → 0 < times x c) → (b || list_any (λ z. are_equal z x) c) ≡ true → 0 < times x (y ∷ c)
    by_test true is later found = let one : times x (y ∷ []) ≡ 1 = ap (λ z. times x (z ∷ [])) (same_if_equal y x is) ∙ times_itself x in omega (arith, times_more x y c, one)
    by_test false is later found = omega (arith, times_more x y c, later found)

-- the test finds an item that is counted
pub found_if_counted : (x : Item) (c : List Item) → 0 < times x c → list_any (λ y. are_equal y x) c ≡ true
found_if_counted x [] some = let none : times x [] ≡ 0 = refl in absurd (omega (arith, some, none))
found_if_counted x (y ∷ c) some = elim (same_or_other x y) [
  | inl same ↦ ap (λ b. b || list_any (λ y. are_equal y x) c) (ap (λ z. are_equal z x) same ∙ equal_itself x)
  | inr other ↦ elim (are_equal y x) as (λ b. (b || list_any (λ y. are_equal y x) c) ≡ true) [
    | true ↦ refl
    | false ↦ found_if_counted x c (omega (arith, some, times_more x y c, times_other x y other))
  ]
]

-- an ascending list has each item at most once
times_ascending : (x : Item) (c : List Item) → IsAscending c → times x c ≤ 1
times_ascending x [] up = let none : times x [] ≡ 0 = refl in omega (arith, none)
times_ascending x (y ∷ c) up = elim (same_or_other x y) [
  | inl same ↦
      let new : IsNew x c = all_weaker (IsSmaller y) (λ z. z ≢ x) (λ z less is. not_smaller_than_itself x (subst (λ w. IsSmaller w x) same (subst (IsSmaller y) is less))) c up.0 in
      let one : times x (y ∷ []) ≡ 1 = ap (λ z. times x (z ∷ [])) same ∙ times_itself x in
      omega (arith, times_more x y c, one, times_new x c new)
  | inr other ↦ omega (arith, times_more x y c, times_other x y other, times_ascending x c up.1)
]

-- ascending items are within a content that has each of them
pub within_if_each : (moved c : List Item) → IsAscending moved → AllByRecursion (λ x. 0 < times x c) moved → IsWithin moved c
within_if_each moved c up each x = elim (has_or_new x moved) [
  | inl has ↦
      let at = index_of moved x (contained_if_counted x moved (times_has x moved has)) in
      omega (arith, times_ascending x moved up, at_each (λ y. 0 < times y c) moved at.0 x each at.1)
  | inr new ↦ omega (arith, times_new x moved new)
]

-- a content has each item that is within it
pub each_if_within : (moved c : List Item) → IsWithin moved c → AllByRecursion (λ x. 0 < times x c) moved
each_if_within moved c within = all_by_index (λ x. 0 < times x c) moved (λ i x found. omega (arith, within x, times_contained x moved (contains_at moved i x found)))

-- an item that is another than one and not among others is not among all of them
pub not_counted : (x y : Item) (c : List Item) → x ≢ y → (0 < times x c → ⊥) → 0 < times x (y ∷ c) → ⊥
not_counted x y c other absent some = absent (omega (arith, some, times_more x y c, times_other x y (λ same. other (sym same))))

-- how many items stay in the own part after some were moved from it
pub stay_counted : (own moved : List Item) (x : Item) → IsWithin moved (x ∷ own) → length (minus (plus own (x ∷ [])) moved) + length moved ≡ length own + 1
stay_counted own moved x within =
    omega (arith, length_minus moved (plus own (x ∷ [])) (within_counted moved (x ∷ own) (plus own (x ∷ [])) (λ z. omega (arith, times_more z x own, times_plus z own (x ∷ []))) within), length_plus own (x ∷ []))

-- a part whose length is 0 by a test is empty
pub empty_if_no_length : (c : List Item) → true ≡ (length c == 0) → c ≡ []
empty_if_no_length c is = nil_from_length c (eqb-true (length c) 0 (sym is))

-- and one whose length is not is not empty
pub some_if_length : (c : List Item) (none some : Bool) → none ≡ (length c == 0) → some ≡ not none → some ≡ true → c ≢ []
some_if_length c none some is other holds empty =
    let zero_long : (length c == 0) ≡ true = eq-eqb (length c) 0 (ap length empty) in
    let bad : false ≡ true = sym (ap not (is ∙ zero_long)) ∙ (sym other ∙ holds) in cc
