-- Own order: the candidate that goes by the rule skips none of its owner's items, and so may be taken.
use Rattle.std.proofs.Common.{◌≡◌, ◌==◌, ◌≢◌, ◌⊎◌, ◌-◌, ℕ, ◌+◌, ◌<◌, ◌≤◌, Bool, true, false, List, [], ◌∷◌, ◌++◌, take, drop, Option, Some, None, refl, sym, ap, ◌∙◌, subst, arith, zero, suc, inl, inr, if◌then◌else◌}
use Rattle.std.specs.List.{slice_get}
use Rattle.std.specs.Ordering.{nat_cmp, ordering_then}
use Rattle.std.specs.Cmp.{nat_cmp_is}
use Rattle.std.specs.declared.cmp.Ordering.TheVariants.{Less}
use Rattle.std.proofs.lemmas.Bool.{cases_lt, eq-eqb, ne_eqb}
use Rattle.std.proofs.lemmas.Option.{none-some, same_Some}
use Rattle.klsm_run.specs.declared.item.Item.{Item}
use Rattle.klsm_run.specs.ItemOrder.{is_smaller, IsSmaller, stamp_cmp}
use Rattle.klsm_run.specs.Content.{sorted}
use Rattle.klsm_run.proofs.AllLemmas.{all_weaker, all_append, all_front, all_back}
use Rattle.klsm_run.proofs.IndexLemmas.{slice_get-take, taken_at, all_by_index}
use Rattle.klsm_run.proofs.LeastLemmas.{IsNoneBelow, not_below, all_unsorted, skipped_none}
use Rattle.klsm_run.proofs.LesserLemmas.{not_smaller_trans}
use Rattle.klsm_run.proofs.RankLemmas.{rising_sorted, none_below_least, least_skips_none, skipped_append, empty_if_no_least}
use Rattle.klsm_run.proofs.SortedLemmas.{all_sorted}
use Rattle.klsm_parts.specs.Least.{least, IsLeast}
use Rattle.klsm_parts.specs.Events.{SkipsNoneOf, MayTake, MayTakeEarly, key_or_greatest, front_of}
use Rattle.klsm_parts.specs.Taking.{own_first}
use Rattle.klsm_parts.specs.Laws.{OwnOrderMayTake, EarliesSkipNone}
use Rattle.klsm_parts.proofs.EventLemmas.{candidate_in_reach, own_in_reach, in_reach_sorted}
use Rattle.klsm_parts.proofs.RisingLemmas.{later_not_smaller}

-- the candidate that goes is not behind the picked one
pub own_first_at_most : (owner index : ℕ) (cs : List Item) → own_first owner index cs ≤ index
own_first_at_most owner zero cs = omega arith
own_first_at_most owner (suc index) [] = omega arith
own_first_at_most owner (suc index) (c ∷ cs) = by_test (c.stamp.owner == owner) (own_first_at_most owner index cs)
  where
    by_test : (b : Bool) → own_first owner index cs ≤ index → (if b then zero else suc (own_first owner index cs)) ≤ suc index
    by_test true less = omega arith
    by_test false less = omega (arith, less)

-- which one it is can be told from the first items alone
pub own_first_take : (owner index n : ℕ) (cs : List Item) → index < n → own_first owner index (take n cs) ≡ own_first owner index cs
own_first_take owner zero n cs less = refl
own_first_take owner (suc index) zero cs less = absurd (omega (arith, less))
own_first_take owner (suc index) (suc n) [] less = refl
own_first_take owner (suc index) (suc n) (c ∷ cs) less =
    ap (λ r. if c.stamp.owner == owner then zero else suc r) (own_first_take owner index n cs (omega (arith, less)))

-- behind the first i items, where the next one is the owner's, and where it is not
pub own_first_here : (owner m i : ℕ) (cs : List Item) (y : Item) → slice_get cs i ≡ Some y → y.stamp.owner ≡ owner → own_first owner (suc m) (drop i cs) ≡ 0
own_first_here owner m i [] y found is = absurd (none-some y found)
own_first_here owner m zero (c ∷ cs) y found is =
    ap (λ b. if b then zero else suc (own_first owner m cs)) (eq-eqb c.stamp.owner owner (ap (λ (z : Item). z.stamp.owner) (same_Some c y found) ∙ is))
own_first_here owner m (suc i) (c ∷ cs) y found is = own_first_here owner m i cs y found is

pub own_first_later : (owner m i : ℕ) (cs : List Item) (y : Item) → slice_get cs i ≡ Some y → y.stamp.owner ≢ owner → own_first owner (suc m) (drop i cs) ≡ suc (own_first owner m (drop (suc i) cs))
own_first_later owner m i [] y found other = absurd (none-some y found)
own_first_later owner m zero (c ∷ cs) y found other =
    ap (λ b. if b then zero else suc (own_first owner m cs)) (ne_eqb c.stamp.owner owner (λ is. other (sym (ap (λ (z : Item). z.stamp.owner) (same_Some c y found)) ∙ is)))
own_first_later owner m (suc i) (c ∷ cs) y found other = own_first_later owner m i cs y found other

-- a search that has come to a candidate of the owner's, and one that goes on behind another
pub own_first_found : (owner index i : ℕ) (cs : List Item) (y : Item) → i < index → slice_get cs i ≡ Some y → y.stamp.owner ≡ owner
    → own_first owner index cs ≡ i + own_first owner (index - i) (drop i cs) → i ≡ own_first owner index cs
own_first_found owner index i cs y less found mine so_far =
    let m : ℕ = index - (i + 1) in
    let left : index - i ≡ suc m = omega (arith, less) in
    let here : own_first owner (index - i) (drop i cs) ≡ 0 = ap (λ n. own_first owner n (drop i cs)) left ∙ own_first_here owner m i cs y found mine in
    omega (arith, so_far, here)

pub own_first_more : (owner index i : ℕ) (cs : List Item) (y : Item) → i < index → slice_get cs i ≡ Some y → y.stamp.owner ≢ owner
    → own_first owner index cs ≡ i + own_first owner (index - i) (drop i cs) → own_first owner index cs ≡ i + 1 + own_first owner (index - (i + 1)) (drop (i + 1) cs)
own_first_more owner index i cs y less found other so_far =
    let m : ℕ = index - (i + 1) in
    let left : index - i ≡ suc m = omega (arith, less) in
    let next : suc i ≡ i + 1 = omega arith in
    let later : own_first owner (index - i) (drop i cs) ≡ suc (own_first owner m (drop (i + 1) cs)) =
    ap (λ n. own_first owner n (drop i cs)) left ∙ (own_first_later owner m i cs y found other ∙ ap (λ j. suc (own_first owner m (drop j cs))) next) in
    omega (arith, so_far, later)

-- no candidate before it is the owner's
none_before : (owner index : ℕ) (cs : List Item) (i : ℕ) (y : Item) → i < own_first owner index cs → slice_get cs i ≡ Some y → y.stamp.owner ≡ owner → ⊥
none_before owner zero cs i y less found is = omega (arith, less)
none_before owner (suc index) [] i y less found is = none-some y found
none_before owner (suc index) (c ∷ cs) i y less found is = by_test (c.stamp.owner == owner) refl (λ j before at. none_before owner index cs j y before at is) i less found
  where
    by_test : (b : Bool) → (c.stamp.owner == owner) ≡ b → ((j : ℕ) → j < own_first owner index cs → slice_get cs j ≡ Some y → ⊥) → (i : ℕ) → i < (if b then zero else suc (own_first owner index cs)) → slice_get (c ∷ cs) i ≡ Some y → ⊥
    by_test true same rest i less found = omega (arith, less)
    by_test false other rest zero less found =
        let here : c.stamp.owner ≡ owner = ap (λ (z : Item). z.stamp.owner) (same_Some c y found) ∙ is in
        let bad : false ≡ true = sym other ∙ eq-eqb c.stamp.owner owner here in cc
    by_test false other rest (suc i) less found = rest i (omega (arith, less)) found

-- so it skips none of the owner's items in the shared part
pub first_keeps_order : (k owner index : ℕ) (shared : List Item) (c : Item) → slice_get (least (k + 1) shared) (own_first owner index (least (k + 1) shared)) ≡ Some c → SkipsNoneOf owner shared c
first_keeps_order k owner index shared c found =
    let at = own_first owner index (least (k + 1) shared) in
    let place = taken_at (k + 1) (sorted shared) at c found in
    all_unsorted (λ y. y.stamp.owner ≡ owner → is_smaller y c ≡ false) shared
    (all_by_index (λ y. y.stamp.owner ≡ owner → is_smaller y c ≡ false) (sorted shared) (λ i y here is. elim (cases_lt i at) [
      | inl before ↦ absurd (none_before owner index (least (k + 1) shared) i y before (slice_get-take (k + 1) (sorted shared) i (omega (arith, before, place.0)) ∙ here) is)
      | inr behind ↦ later_not_smaller (sorted shared) at i c y (rising_sorted shared) behind place.1 here
    ]))

-- an item that no item is smaller than skips none of an owner's items
pub order_if_none_below : (owner : ℕ) (x : Item) (c : List Item) → IsNoneBelow x c → SkipsNoneOf owner c x
order_if_none_below owner x c low = all_weaker (λ y. is_smaller y x ≡ false) (λ y. y.stamp.owner ≡ owner → is_smaller y x ≡ false) (λ y no is. no) c low

-- nor does one that is not greater than an item that skips none
order_if_lower : (owner : ℕ) (x c : Item) (shared : List Item) → is_smaller c x ≡ false → SkipsNoneOf owner shared c → SkipsNoneOf owner shared x
order_if_lower owner x c shared low order =
    all_weaker (λ y. y.stamp.owner ≡ owner → is_smaller y c ≡ false) (λ y. y.stamp.owner ≡ owner → is_smaller y x ≡ false)
    (λ y no is. not_smaller_trans x c y low (no is)) shared order

-- the lesser of a candidate that skips none and the least own item
pub order_of_lesser : (owner : ℕ) (own shared : List Item) (c x : Item) → IsLeast x (c ∷ own) → SkipsNoneOf owner shared c → SkipsNoneOf owner (own ++ shared) x
order_of_lesser owner own shared c x first order =
    let low = none_below_least x (c ∷ own) first in
    all_append (λ y. y.stamp.owner ≡ owner → is_smaller y x ≡ false) own shared (order_if_none_below owner x own low.1) (order_if_lower owner x c shared low.0 order)

-- the least own item, where the shared part is empty or all its items are greater
pub order_of_own : (owner : ℕ) (own shared : List Item) (x : Item) → IsLeast x own → (shared ≡ []) ⊎ ((y : Item) × IsLeast y shared × IsSmaller x y) → SkipsNoneOf owner (own ++ shared) x
order_of_own owner own shared x first others =
    all_append (λ y. y.stamp.owner ≡ owner → is_smaller y x ≡ false) own shared (order_if_none_below owner x own (none_below_least x own first)) (by_case others)
  where
    by_case : (shared ≡ []) ⊎ ((y : Item) × IsLeast y shared × IsSmaller x y) → SkipsNoneOf owner shared x
    by_case (inl empty) = subst (λ c. SkipsNoneOf owner c x) (sym empty) tt
    by_case (inr other) = order_if_lower owner x other.0 shared (not_below x other.0 other.2) (order_if_none_below owner other.0 shared (none_below_least other.0 shared other.1))

-- the candidate that goes by the rule, or the least own item in its place, may be taken
pub rule_may_take : OwnOrderMayTake
rule_may_take k owner index own shared c x found first =
    let at = own_first owner index (least (k + 1) shared) in
    let place = taken_at (k + 1) (sorted shared) at c found in
    record {
      in_reach = candidate_in_reach k own shared c at x place.0 place.1 first;
      own_order = order_of_lesser owner own shared c x first (first_keeps_order k owner index shared c found);
    }

-- the least own item may be taken where the shared part is empty, or its least item is larger
pub own_may_take : (k owner : ℕ) (own shared : List Item) (x : Item) → IsLeast x own → (shared ≡ []) ⊎ ((y : Item) × IsLeast y shared × IsSmaller x y) → MayTake k owner own shared x
own_may_take k owner own shared x first others = record {
  in_reach = own_in_reach k own shared x first others;
  own_order = order_of_own owner own shared x first others;
}

-- contents may be sorted first
pub may_take_sorted : (k owner : ℕ) (own shared : List Item) (x : Item) → MayTake k owner own shared x → MayTake k owner (sorted own) (sorted shared) x
may_take_sorted k owner own shared x may =
    let Keeps : Item → Type 0 = λ y. y.stamp.owner ≡ owner → is_smaller y x ≡ false in
    record {
      in_reach = in_reach_sorted k own shared x may.in_reach;
      own_order = all_append Keeps (sorted own) (sorted shared) (all_sorted Keeps own (all_front Keeps own shared may.own_order)) (all_sorted Keeps shared (all_back Keeps own shared may.own_order));
    }

-- an item of a smaller key is smaller
pub smaller_key : (x y : Item) → x.key < y.key → IsSmaller x y
smaller_key x y less = sym (ap (λ o. ordering_then o (ordering_then (stamp_cmp x.stamp y.stamp) (nat_cmp x.load y.load))) (nat_cmp_is x.key y.key Less less))

-- an item whose key is below the front of a content skips none of it
pub below_front_skips_none : (x : Item) (c : List Item) → x.key < front_of c → IsNoneBelow x c
below_front_skips_none x c below = by_least (slice_get (sorted c) 0) refl
  where
    by_least : (o : Option Item) → slice_get (sorted c) 0 ≡ o → IsNoneBelow x c
    by_least None none = subst (IsNoneBelow x) (sym (empty_if_no_least c none)) tt
    by_least (Some y) some =
        let less : x.key < y.key = subst (λ n. x.key < n) (ap key_or_greatest some) below in
        all_weaker (λ z. is_smaller z y ≡ false) (λ z. is_smaller z x ≡ false) (λ z no. not_smaller_trans x y z (not_below x y (smaller_key x y less)) no) c (none_below_least y c some)

-- so a deletion by the front skips no item of the two parts
pub early_skips_none : EarliesSkipNone
early_skips_none own shared x may =
    omega (arith, skipped_append own shared x, least_skips_none x own may.least, skipped_none x shared (below_front_skips_none x shared may.below))

-- nor one of the owner's
pub early_keeps_order : (owner : ℕ) (own shared : List Item) (x : Item) → MayTakeEarly own x (front_of shared) → SkipsNoneOf owner (own ++ shared) x
early_keeps_order owner own shared x may =
    all_append (λ y. y.stamp.owner ≡ owner → is_smaller y x ≡ false) own shared (order_if_none_below owner x own (none_below_least x own may.least)) (order_if_none_below owner x shared (below_front_skips_none x shared may.below))

-- none of those before is the owner's
pub own_first_none : (owner index i : ℕ) (cs : List Item) → index ≤ i → i ≤ index → own_first owner index cs ≡ i + own_first owner (index - i) (drop i cs) → index ≡ own_first owner index cs
own_first_none owner index i cs over within so_far =
    let none : index - i ≡ 0 = omega (arith, over) in
    omega (arith, over, within, so_far, ap (λ n. own_first owner n (drop i cs)) none)
