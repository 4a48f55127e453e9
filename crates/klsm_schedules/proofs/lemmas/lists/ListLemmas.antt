-- Lists that are joined one after another, and lists that are put in order.
use Rattle.std.proofs.Common.{◌≡◌, ℕ, suc, ◌+◌, ◌<◌, List, [], ◌∷◌, ◌++◌, length, get_or, take, refl, ap, sym, subst, ◌∙◌, arith, cond, false}
use Rattle.std.specs.List.{flat_map}
use Rattle.std.specs.List.Sorted.{IsPermutation, IsSorted}
use Rattle.std.proofs.lemmas.List.{take_more}
use Rattle.std.proofs.lemmas.List.Sorted.{sum_by-IsPermutation}
use Rattle.klsm_run.specs.declared.item.Item.{Item}
use Rattle.klsm_run.specs.ItemOrder.{item_cmp, is_smaller, is_same}
use Rattle.klsm_run.specs.Content.{placed, sorted}
use Rattle.klsm_schedules.proofs.lemmas.counts.ItemGrowthLemmas.{flat_map_more}
use Rattle.klsm_schedules.proofs.lemmas.counts.SameLemmas.{same_if_counted}

-- what stands for an item past the end of a list
abbrev pub no_item : Item
no_item = record { key = 0; stamp = record { owner = 0; number = 0 }; load = 0 }

-- one element more adds its items
pub items_more : {A B : Type 0} (f : A → List B) (xs : List A) (i : ℕ) (d : A) → i < length xs → flat_map f (take (i + 1) xs) ≡ flat_map f (take i xs) ++ f (get_or xs i d)
items_more f xs i d within =
    ap (flat_map f) (take_more xs i d within) ∙ flat_map_more f (take i xs) (get_or xs i d)

-- a list in order is its own ascending list
pub sorted_if_in_order : (c : List Item) → IsSorted item_cmp c → sorted c ≡ c
sorted_if_in_order [] in_order = refl
sorted_if_in_order (x ∷ []) in_order = refl
sorted_if_in_order (x ∷ y ∷ ys) in_order =
    let behind : IsSorted item_cmp (y ∷ ys) = λ k d low high.
    let next : suc k + 1 ≡ suc (k + 1) = omega arith in
    subst (λ i. is_smaller (get_or (x ∷ y ∷ ys) i d) (get_or (y ∷ ys) k d) ≡ false) next (in_order (suc k) d (omega arith) (omega (arith, high))) in
    let above : is_smaller y x ≡ false = in_order 0 x (omega arith) (omega arith) in
    ap (placed x) (sorted_if_in_order (y ∷ ys) behind) ∙ ap (λ b. cond b (y ∷ placed x ys) (x ∷ y ∷ ys)) above

-- what a sort gives is the ascending list
pub sorted_by_sort : (c d : List Item) → IsPermutation c d → IsSorted item_cmp d → d ≡ sorted c
sorted_by_sort c d moved in_order = sym (sorted_if_in_order d in_order) ∙ same_if_counted d c (λ x. sum_by-IsPermutation (λ y. cond (is_same x y) 1 0) c d moved)
