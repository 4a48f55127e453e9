-- What is true of all items of a list, seen from those that a loop has not come to yet.
use Rattle.std.proofs.Common.{◌≡◌, ◌↔◌, ℕ, ◌+◌, ◌<◌, ◌≤◌, List, [], ◌∷◌, length, drop, get_or, refl, sym, ap, ◌∙◌, subst, arith}
use Rattle.std.specs.List.{AllByRecursion}
use Rattle.std.specs.Ordering.{is_ge}
use Rattle.std.specs.declared.cmp.Ordering.{Ordering}
use Rattle.std.specs.declared.cmp.Ordering.TheVariants.{Less, Equal, Greater}
use Rattle.std.proofs.lemmas.List.{drop_more, length-drop}
use Rattle.std.proofs.Math.ListN.{drop_of_length-le}
use Rattle.klsm_run.specs.declared.item.Item.{Item}
use Rattle.klsm_run.specs.ItemOrder.{item_cmp, IsSmaller}
use Rattle.klsm_run.specs.Content.{IsAscending}
use Rattle.klsm_run.proofs.AllLemmas.{all_weaker}
use Rattle.klsm_run.proofs.OrderLemmas.{smaller_trans}
use Rattle.std.proofs.Common.{false, true}

-- what is true of the item that a loop is at is true of all where it is true of the others
pub all_seen : {X : Type 0} (P : X → Type 0) → (xs : List X) (i : ℕ) (d : X) → i < length xs → P (get_or xs i d)
    → AllByRecursion P (drop i xs) ↔ AllByRecursion P xs → AllByRecursion P (drop (i + 1) xs) ↔ AllByRecursion P xs
all_seen P xs i d here holds before =
    let next = drop_more xs i d here in
    (λ rest. before.0 (subst (AllByRecursion P) (sym next) (holds, rest)), λ all. (subst (AllByRecursion P) next (before.1 all)).1)

-- what is not true of that item is not true of all
pub not_all_seen : {X : Type 0} (P : X → Type 0) → (xs : List X) (i : ℕ) (d : X) → i < length xs → (P (get_or xs i d) → ⊥)
    → AllByRecursion P (drop i xs) ↔ AllByRecursion P xs → AllByRecursion P xs → ⊥
not_all_seen P xs i d here fails before all = fails (subst (AllByRecursion P) (drop_more xs i d here) (before.1 all)).0

-- at the end of the loop it is true of all
pub all_seen_at_end : {X : Type 0} (P : X → Type 0) → (xs : List X) (i : ℕ) → length xs ≤ i
    → AllByRecursion P (drop i xs) ↔ AllByRecursion P xs → AllByRecursion P xs
all_seen_at_end P xs i end before = before.0 (subst (AllByRecursion P) (sym (drop_of_length-le xs end)) tt)

-- an item that is not at least another is smaller
pub less_if_not_at_least : (x y : Item) → false ≡ is_ge (item_cmp x y) → IsSmaller x y
less_if_not_at_least x y below = by_order (item_cmp x y) below
  where
    by_order : (o : Ordering) → false ≡ is_ge o → o ≡ Less
    by_order Less below = refl
    by_order Equal below = cc
    by_order Greater below = cc

-- an item that is at least another is not smaller
pub not_less_if_at_least : (x y : Item) → true ≡ is_ge (item_cmp x y) → IsSmaller x y → ⊥
not_less_if_at_least x y above less = let bad : true ≡ false = above ∙ ap is_ge less in cc

first_two : (xs : List Item) (n next : ℕ) (d : Item) → n + 1 ≡ next → next < length xs → drop n xs ≡ get_or xs n d ∷ get_or xs next d ∷ drop (next + 1) xs
first_two xs n next d is here =
    drop_more xs n d (omega (arith, is, here)) ∙ ap (λ zs. get_or xs n d ∷ zs) (ap (λ m. drop m xs) is ∙ drop_more xs next d here)

-- an item that is smaller than the next goes before an ascending rest
pub ascending_seen : (xs : List Item) (n next more : ℕ) (d : Item) → n + 1 ≡ next → more ≡ next → next < length xs → IsSmaller (get_or xs n d) (get_or xs next d)
    → IsAscending (drop n xs) ↔ IsAscending xs → IsAscending (drop more xs) ↔ IsAscending xs
ascending_seen xs n next more d is same here less before =
    let two = first_two xs n next d is here in
    let one : drop more xs ≡ get_or xs next d ∷ drop (next + 1) xs = ap (λ m. drop m xs) same ∙ drop_more xs next d here in
    let longer : IsAscending (get_or xs next d ∷ drop (next + 1) xs) → IsAscending (get_or xs n d ∷ get_or xs next d ∷ drop (next + 1) xs) = λ up.
    ((less, all_weaker (IsSmaller (get_or xs next d)) (IsSmaller (get_or xs n d)) (λ z k. smaller_trans (get_or xs n d) (get_or xs next d) z less k) (drop (next + 1) xs) up.0), up) in (
      λ up. before.0 (subst IsAscending (sym two) (longer (subst IsAscending one up))),
      λ up. subst IsAscending (sym one) (subst IsAscending two (before.1 up)).1,
    )

-- a list with an item that is not smaller than the next is not ascending
pub not_ascending_seen : (xs : List Item) (n next : ℕ) (d : Item) → n + 1 ≡ next → next < length xs → (IsSmaller (get_or xs n d) (get_or xs next d) → ⊥)
    → IsAscending (drop n xs) ↔ IsAscending xs → IsAscending xs → ⊥
not_ascending_seen xs n next d is here not_less before up = not_less (subst IsAscending (first_two xs n next d is here) (before.1 up)).0.0

ascending_short : (xs : List Item) → length xs ≤ 1 → IsAscending xs
ascending_short [] short = tt
ascending_short (x ∷ []) short = (tt, tt)
ascending_short (x ∷ y ∷ xs) short = absurd (omega (arith, short))

-- at the end of the loop the list is ascending
pub ascending_at_end : (xs : List Item) (n next : ℕ) → n + 1 ≡ next → length xs ≤ next → IsAscending (drop n xs) ↔ IsAscending xs → IsAscending xs
ascending_at_end xs n next is end before = before.0 (ascending_short (drop n xs) (omega (arith, is, end, length-drop n xs)))
