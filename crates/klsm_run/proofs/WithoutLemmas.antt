-- What `without` does to sorted lists: an item that was placed is taken away again, and equal contents stay equal without the same items.
use Rattle.std.proofs.Common.{◌≡◌, ◌≢◌, false, List, [], ◌∷◌, ◌++◌, refl, sym, ap, ◌∙◌, subst, if◌then◌else◌, ◌⊎◌, inl, inr}
use Rattle.std.specs.List.{Contains}
use Rattle.std.specs.Ordering.{is_eq}
use Rattle.klsm_run.specs.declared.item.Item.{Item}
use Rattle.klsm_run.specs.ItemOrder.{is_same, IsSmaller}
use Rattle.klsm_run.specs.Content.{placed, sorted, without}
use Rattle.klsm_run.proofs.OrderLemmas.{not_smaller_than_itself, Below, Same, Above, ranked}
use Rattle.klsm_run.proofs.SortedLemmas.{IsNew, all_sorted}
use Rattle.klsm_run.proofs.ApartLemmas.{new_if_absent}
use Rattle.klsm_run.proofs.ContentLemmas.{not_smaller_itself, placed_placed}
use Rattle.klsm_run.proofs.LeastLemmas.{Has, without_first}

-- an item that was placed is the one that is taken away
pub without_placed : (x : Item) (ys : List Item) → without x (placed x ys) ≡ ys
without_placed x [] = without_first x []
without_placed x (y ∷ ys) = elim (ranked y x) [
  | Below less greater ↦ rw (less, greater) (ap (λ zs. y ∷ zs) (without_placed x ys))
  | Same same ↦ ap (λ b. without x (if b then y ∷ placed x ys else x ∷ y ∷ ys)) (not_smaller_itself x y same) ∙ without_first x (y ∷ ys)
  | Above greater less ↦ rw greater (without_first x (y ∷ ys))
]

pub placed_cancel : (x : Item) (ys zs : List Item) → placed x ys ≡ placed x zs → ys ≡ zs
placed_cancel x ys zs same = sym (without_placed x ys) ∙ (ap (without x) same ∙ without_placed x zs)

-- equal contents are equal without the same items
pub sorted_cancel : (xs ys zs : List Item) → sorted (xs ++ ys) ≡ sorted (xs ++ zs) → sorted ys ≡ sorted zs
sorted_cancel [] ys zs same = same
sorted_cancel (x ∷ xs) ys zs same = sorted_cancel xs ys zs (placed_cancel x (sorted (xs ++ ys)) (sorted (xs ++ zs)) same)

-- an item is another, or the same
pub same_or_other : (x y : Item) → (y ≡ x) ⊎ (y ≢ x)
same_or_other x y = elim (ranked y x) [
  | Below less greater ↦ inr (λ same. not_smaller_than_itself x (subst (λ z. IsSmaller z x) same less))
  | Same same ↦ inl same
  | Above greater less ↦ inr (λ same. not_smaller_than_itself x (subst (IsSmaller x) same less))
]

pub same_not : (x y : Item) → y ≢ x → is_same x y ≡ false
same_not x y other = elim (ranked x y) [
  | Below less greater ↦ ap is_eq less
  | Same same ↦ absurd (other (sym same))
  | Above greater less ↦ ap is_eq greater
]

-- the first item is another than the one that is taken away
pub without_later : (x y : Item) (ys : List Item) → y ≢ x → without x (y ∷ ys) ≡ y ∷ without x ys
without_later x y ys other = ap (λ b. if b then ys else y ∷ without x ys) (same_not x y other)

-- from a list to which an item is new nothing is taken away
pub without_new : (x : Item) (c : List Item) → IsNew x c → without x c ≡ c
without_new x [] new = refl
without_new x (y ∷ ys) new = without_later x y ys new.0 ∙ ap (λ zs. y ∷ zs) (without_new x ys new.1)

pub without_absent : (x : Item) (c : List Item) → (Contains c x → ⊥) → without x c ≡ c
without_absent x c absent = without_new x c (new_if_absent x c absent)

-- an item is in a list, or new to it
pub has_or_new : (x : Item) (c : List Item) → Has x c ⊎ IsNew x c
has_or_new x [] = inr tt
has_or_new x (y ∷ ys) = elim (same_or_other x y) [
  | inl same ↦ inl (inl same)
  | inr other ↦ elim (has_or_new x ys) [ inl there ↦ inl (inr there) | inr new ↦ inr (other, new) ]
]

-- an item of a content, with the content without it
pub sorted_back : (x : Item) (c : List Item) → Has x c → sorted (x ∷ without x c) ≡ sorted c
sorted_back x [] within = absurd within
sorted_back x (y ∷ ys) within = elim (same_or_other x y) [
  | inl same ↦ ap (λ zs. sorted (x ∷ zs)) (ap (λ z. without x (z ∷ ys)) same ∙ without_first x ys) ∙ ap (λ z. sorted (z ∷ ys)) (sym same)
  | inr other ↦
      let later : Has x ys = elim within [ inl here ↦ absurd (other here) | inr there ↦ there ] in
      ap (λ zs. sorted (x ∷ zs)) (without_later x y ys other) ∙ (placed_placed x y (sorted (without x ys)) ∙ ap (placed y) (sorted_back x ys later))
]

-- an item may be taken away before sorting or after it
pub sorted_without : (x : Item) (c : List Item) → sorted (without x c) ≡ without x (sorted c)
sorted_without x c = elim (has_or_new x c) [
  | inl within ↦ sym (without_placed x (sorted (without x c))) ∙ ap (without x) (sorted_back x c within)
  | inr new ↦ ap sorted (without_new x c new) ∙ sym (without_new x (sorted c) (all_sorted (λ y. y ≢ x) c new))
]
