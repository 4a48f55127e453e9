-- Two ascending lists that share no item: their sorted list ascends too.
use Rattle.std.proofs.Common.{◌≢◌, List, [], ◌∷◌, ◌++◌, refl, sym, subst, arith, zero, suc}
use Rattle.std.specs.List.{AllByRecursion, Contains}
use Rattle.klsm_run.specs.declared.item.Item.{Item}
use Rattle.klsm_run.specs.ItemOrder.{IsSmaller}
use Rattle.klsm_run.specs.Content.{sorted, IsAscending, ShareNone}
use Rattle.klsm_run.proofs.AllLemmas.{all_weaker, all_append}
use Rattle.klsm_run.proofs.OrderLemmas.{not_smaller_than_itself}
use Rattle.klsm_run.proofs.SortedLemmas.{IsNew, sorted_ascending, all_sorted, ascending_placed}

-- no item of the first list is in the second
abbrev pub AreApart : List Item → List Item → Type 0
AreApart xs ys = AllByRecursion (λ x. IsNew x ys) xs

new_append : (x : Item) (xs ys : List Item) → IsNew x xs → IsNew x ys → IsNew x (xs ++ ys)
new_append x xs ys h k = all_append (λ y. y ≢ x) xs ys h k

-- the sorted list of two ascending lists that share no item is ascending
pub ascending_sorted : (xs ys : List Item) → IsAscending xs → IsAscending ys → AreApart xs ys → IsAscending (sorted (xs ++ ys))
ascending_sorted [] ys up_xs up_ys apart = subst IsAscending (sym (sorted_ascending ys up_ys)) up_ys
ascending_sorted (x ∷ xs) ys up_xs up_ys apart =
    let own : IsNew x xs = all_weaker (IsSmaller x) (λ y. y ≢ x) (λ y less same. not_smaller_than_itself x (subst (IsSmaller x) same less)) xs up_xs.0 in
    ascending_placed x (sorted (xs ++ ys)) (ascending_sorted xs ys up_xs.1 up_ys apart.1) (all_sorted (λ y. y ≢ x) (xs ++ ys) (new_append x xs ys own apart.0))

-- an item that the list does not contain is new to it
pub new_if_absent : (x : Item) (ys : List Item) → (Contains ys x → ⊥) → IsNew x ys
new_if_absent x [] absent = tt
new_if_absent x (y ∷ ys) absent = (λ same. absent (0, omega arith, same), new_if_absent x ys (λ at. absent (suc at.0, omega (arith, at.1), at.2)))

-- lists that share no item are apart
pub apart_if_sharing_none : (xs ys : List Item) → ShareNone xs ys → AreApart xs ys
apart_if_sharing_none [] ys none = tt
apart_if_sharing_none (x ∷ xs) ys none = (new_if_absent x ys (none x (0, omega arith, refl)), apart_if_sharing_none xs ys (λ z at. none z (suc at.0, omega (arith, at.1), at.2)))

-- an item that a list does not hold shares no item with it
pub apart_from_single : (xs : List Item) (x : Item) → (Contains xs x → ⊥) → ShareNone xs (x ∷ [])
apart_from_single xs x absent y within (zero, bound, same) = absent (subst (Contains xs) (sym same) within)
apart_from_single xs x absent y within (suc k, bound, same) = absurd (omega (arith, bound))
