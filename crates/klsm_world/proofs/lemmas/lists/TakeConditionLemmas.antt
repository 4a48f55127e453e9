-- What the least own item and the candidates say of whether a take may take an item.
use Rattle.std.proofs.Common.{◌≡◌, ◌≢◌, ℕ, ◌+◌, ◌<◌, ◌≤◌, min, Bool, true, false, List, [], ◌∷◌, length, take, Some, None, refl, sym, ap, ◌∙◌, subst, arith, inl, inr, zero, suc}
use Rattle.std.specs.List.{slice_get, Contains}
use Rattle.std.specs.Ordering.{is_lt, is_le}
use Rattle.std.specs.declared.cmp.Ordering.{Ordering}
use Rattle.std.specs.declared.cmp.Ordering.TheVariants.{Less, Equal, Greater}
use Rattle.std.proofs.lemmas.Cmp.{tied_itself}
use Rattle.std.proofs.lemmas.Bool.{cases_lt}
use Rattle.std.proofs.lemmas.List.{length-take}
use Rattle.std.proofs.lemmas.Option.{same_Some, slice_get_within}
use Rattle.klsm_run.specs.declared.item.Item.{Item}
use Rattle.klsm_run.specs.ItemOrder.{item_cmp, is_smaller, IsSmaller}
use Rattle.klsm_run.specs.Content.{sorted}
use Rattle.klsm_run.proofs.ContentLemmas.{not_smaller_itself}
use Rattle.klsm_run.proofs.IndexLemmas.{taken_at, contains_at, index_of}
use Rattle.klsm_run.proofs.LeastLemmas.{not_below}
use Rattle.klsm_run.proofs.LesserLemmas.{lesser_item, lesser_first, lesser_second, less_if_smaller, not_smaller_trans}
use Rattle.klsm_run.proofs.OrderLemmas.{item_total, not_smaller_than_itself, Below, Same, Above, ranked}
use Rattle.klsm_parts.specs.Least.{least, IsLeast}
use Rattle.klsm_parts.specs.Events.{times, IsInReach, SkipsNoneOf, MayTake}
use Rattle.klsm_run.proofs.RankLemmas.{rising_sorted, none_below_least}
use Rattle.klsm_run.proofs.AllLemmas.{all_append, all_back}
use Rattle.klsm_parts.proofs.OwnOrderLemmas.{order_if_none_below}
use Rattle.klsm_parts.proofs.EventLemmas.{first_of_both, least_alone, least_candidate, least_own}
use Rattle.klsm_schedules.proofs.lemmas.counts.EventCountLemmas.{times_contained, contained_if_counted}
use Rattle.klsm_parts.proofs.RisingLemmas.{later_not_smaller}

-- an item is at most another where that one is not smaller
pub not_smaller_if_at_most : (x y : Item) → is_le (item_cmp x y) ≡ true → is_smaller y x ≡ false
not_smaller_if_at_most x y low = elim (ranked x y) [
  | Below less greater ↦ ap is_lt greater
  | Same same ↦ not_smaller_itself x y (sym same)
  | Above greater less ↦ let bad : true ≡ false = sym low ∙ ap is_le greater in cc
]

-- and the other way round
pub at_most_if_not_smaller : (x y : Item) → is_smaller y x ≡ false → is_le (item_cmp x y) ≡ true
at_most_if_not_smaller x y low = by_order (item_cmp x y) refl
  where
    by_order : (o : Ordering) → item_cmp x y ≡ o → is_le o ≡ true
    by_order Less is = refl
    by_order Equal is = refl
    by_order Greater is = elim (ranked x y) [
      | Below less greater ↦ let bad : Less ≡ Greater = sym less ∙ is in cc
      | Same same ↦
          let tie : item_cmp x y ≡ Equal = subst (λ z. item_cmp x z ≡ Equal) same (tied_itself item_total x) in
          let bad : Equal ≡ Greater = sym tie ∙ is in cc
      | Above greater less ↦ let bad : true ≡ false = sym (ap is_lt less) ∙ low in cc
    ]

take_all : {X : Type 0} → (n : ℕ) (xs : List X) → length xs ≤ n → take n xs ≡ xs
take_all zero [] few = refl
take_all (suc n) [] few = refl
take_all zero (x ∷ xs) few = absurd (omega (arith, few))
take_all (suc n) (x ∷ xs) few = ap (λ zs. x ∷ zs) (take_all n xs (omega (arith, few)))

first_ones : {X : Type 0} → (xs : List X) (m n : ℕ) → m ≡ min (length xs) n → take m xs ≡ take n xs
first_ones xs m n is = elim (cases_lt n (length xs)) [
  | inl more ↦ let same : m ≡ n = omega (arith, is, more) in ap (λ i. take i xs) same
  | inr few ↦ take_all m xs (omega (arith, is, few)) ∙ sym (take_all n xs few)
]

-- the candidates, where the shared part is sorted
pub candidates_taken : (k m : ℕ) (shared : List Item) → sorted shared ≡ shared → m ≡ min (length shared) (k + 1) → take m shared ≡ least (k + 1) shared
candidates_taken k m shared is_sorted is = first_ones shared m (k + 1) is ∙ ap (take (k + 1)) (sym is_sorted)

-- with no own item a take takes a candidate
pub take_candidate : (k : ℕ) (own shared : List Item) (x : Item) → slice_get (sorted own) 0 ≡ None → 0 < times x (least (k + 1) shared) → IsInReach k own shared x
take_candidate k own shared x none some = inr (x, contained_if_counted x (least (k + 1) shared) some, least_alone x own none)

-- and what a take takes then is a candidate
pub candidate_if_taken : (k : ℕ) (own shared : List Item) (x : Item) → slice_get (sorted own) 0 ≡ None → IsInReach k own shared x → 0 < times x (least (k + 1) shared)
candidate_if_taken k own shared x none (inl taken) = let bad : None ≡ Some x = sym none ∙ taken.1 in cc
candidate_if_taken k own shared x none (inr taken) =
    let same : taken.0 ≡ x = same_Some taken.0 x (sym (first_of_both taken.0 own None none) ∙ taken.2) in
    times_contained x (least (k + 1) shared) (subst (Contains (least (k + 1) shared)) same taken.1)

-- a candidate that is smaller than the least own item may be taken
pub take_smaller_candidate : (k : ℕ) (own shared : List Item) (x y : Item) → slice_get (sorted own) 0 ≡ Some y → is_smaller x y ≡ true → 0 < times x (least (k + 1) shared) → IsInReach k own shared x
take_smaller_candidate k own shared x y first smaller some =
    inr (x, contained_if_counted x (least (k + 1) shared) some, least_candidate x y own first (not_below x y (less_if_smaller x y smaller)))

-- and a taken item that is not the least own one is such a candidate
pub smaller_candidate_if_taken : (k : ℕ) (own shared : List Item) (x y : Item) → slice_get (sorted own) 0 ≡ Some y → y ≢ x → IsInReach k own shared x → (is_smaller x y ≡ true) × (0 < times x (least (k + 1) shared))
smaller_candidate_if_taken k own shared x y first other (inl taken) = absurd (other (same_Some y x (sym first ∙ taken.1)))
smaller_candidate_if_taken k own shared x y first other (inr taken) = by_test (is_smaller y taken.0) refl (same_Some (lesser_item taken.0 y) x (sym (first_of_both taken.0 own (Some y) first) ∙ taken.2))
  where
    by_test : (b : Bool) → is_smaller y taken.0 ≡ b → lesser_item taken.0 y ≡ x → (is_smaller x y ≡ true) × (0 < times x (least (k + 1) shared))
    by_test true smaller is = absurd (other (sym (lesser_second taken.0 y smaller) ∙ is))
    by_test false not_smaller is =
        let same : taken.0 ≡ x = sym (lesser_first taken.0 y not_smaller) ∙ is in
        let not_less : is_smaller y x ≡ false = subst (λ z. is_smaller y z ≡ false) same not_smaller in (
          elim (ranked x y) [
            | Below less greater ↦ ap is_lt less
            | Same one ↦ absurd (other (sym one))
            | Above greater less ↦ let bad : true ≡ false = sym (ap is_lt less) ∙ not_less in cc
          ],
          times_contained x (least (k + 1) shared) (subst (Contains (least (k + 1) shared)) same taken.1),
        )

-- the least own item may be taken where a candidate is not smaller
pub take_least_own : (k : ℕ) (own shared : List Item) (x y : Item) (i : ℕ) → slice_get (sorted own) 0 ≡ Some x → slice_get (least (k + 1) shared) i ≡ Some y → is_smaller y x ≡ false → IsInReach k own shared x
take_least_own k own shared x y i first found low =
    inr (
      y,
      contains_at (least (k + 1) shared) i y found,
      elim (ranked x y) [
        | Below less greater ↦ least_own y x own first (ap is_lt less)
        | Same same ↦ subst (λ z. IsLeast z (y ∷ own)) (sym same) (least_candidate y x own first (not_smaller_itself y x same))
        | Above greater less ↦ let bad : true ≡ false = sym (ap is_lt less) ∙ low in cc
      ],
    )

-- and the greatest candidate is not smaller where it is taken
pub greatest_if_taken : (k : ℕ) (own shared : List Item) (x y : Item) (i : ℕ) → slice_get (sorted own) 0 ≡ Some x → slice_get (least (k + 1) shared) i ≡ Some y → length (least (k + 1) shared) ≡ i + 1 → IsInReach k own shared x → is_smaller y x ≡ false
greatest_if_taken k own shared x y i first found last (inl taken) =
    absurd (omega (arith, last, length-take (k + 1) (sorted shared), ap (λ (c : List Item). length (sorted c)) taken.0))
greatest_if_taken k own shared x y i first found last (inr taken) =
    let at = index_of (least (k + 1) shared) taken.0 taken.1 in
    let here = taken_at (k + 1) (sorted shared) at.0 taken.0 at.1 in
    let there = taken_at (k + 1) (sorted shared) i y found in
    let order : at.0 ≤ i = omega (arith, slice_get_within (least (k + 1) shared) at.0 taken.0 at.1, last) in
    let is : lesser_item taken.0 x ≡ x = same_Some (lesser_item taken.0 x) x (sym (first_of_both taken.0 own (Some x) first) ∙ taken.2) in
    let not_less : is_smaller taken.0 x ≡ false = elim (ranked taken.0 x) [
      | Below less greater ↦ absurd (not_smaller_than_itself x (subst (λ z. IsSmaller z x) (sym (lesser_first taken.0 x (ap is_lt greater)) ∙ is) less))
      | Same same ↦ not_smaller_itself x taken.0 same
      | Above greater less ↦ ap is_lt greater
    ] in
    not_smaller_trans x taken.0 y not_less (later_not_smaller (sorted shared) at.0 i taken.0 y (rising_sorted shared) order here.1 there.1)

-- no own item is smaller than one in reach, so own order need be seen in the shared part alone
pub may_take_if_ordered : (k owner : ℕ) (own shared : List Item) (x : Item) → IsInReach k own shared x → SkipsNoneOf owner shared x → MayTake k owner own shared x
may_take_if_ordered k owner own shared x in_reach order = record {
  in_reach = in_reach;
  own_order = all_append (λ y. y.stamp.owner ≡ owner → is_smaller y x ≡ false) own shared (own_order in_reach) order;
}
  where
    own_order : IsInReach k own shared x → SkipsNoneOf owner own x
    own_order (inl taken) = order_if_none_below owner x own (none_below_least x own taken.1)
    own_order (inr taken) = order_if_none_below owner x own (none_below_least x (taken.0 ∷ own) taken.2).1

pub ordered_if_may_take : (k owner : ℕ) (own shared : List Item) (x : Item) → MayTake k owner own shared x → SkipsNoneOf owner shared x
ordered_if_may_take k owner own shared x may = all_back (λ y. y.stamp.owner ≡ owner → is_smaller y x ≡ false) own shared may.own_order
