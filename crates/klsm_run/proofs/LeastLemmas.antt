-- What the first item of a content's sorted list says of the content.
use Rattle.std.proofs.Common.{◌≡◌, ◌+◌, Bool, true, false, List, [], ◌∷◌, refl, sym, ap, ◌∙◌, subst, arith, cond, if◌then◌else◌, ◌⊎◌, inl, inr}
use Rattle.std.specs.List.{AllByRecursion}
use Rattle.std.specs.Ordering.{is_lt, is_eq}
use Rattle.std.specs.declared.cmp.Ordering.TheVariants.{Less, Greater}
use Rattle.std.proofs.lemmas.Cmp.{tied_itself}
use Rattle.std.proofs.lemmas.List.Sums.{sum_by-cons}
use Rattle.klsm_run.specs.declared.item.Item.{Item}
use Rattle.klsm_run.specs.ItemOrder.{is_same, is_smaller, IsSmaller}
use Rattle.klsm_run.specs.Content.{placed, sorted, without, skipped, IsAscending}
use Rattle.klsm_run.proofs.AllLemmas.{all_weaker}
use Rattle.klsm_run.proofs.OrderLemmas.{item_total, not_smaller_than_itself, Below, Same, Above, ranked}
use Rattle.klsm_run.proofs.SortedLemmas.{all_sorted}

-- one of the list's items is x
abbrev pub Has : Item → List Item → Type 0
Has x [] = ⊥
Has x (y ∷ ys) = (y ≡ x) ⊎ Has x ys

-- an item is smaller than no item of the list
abbrev pub IsNoneBelow : Item → List Item → Type 0
IsNoneBelow x = AllByRecursion (λ y. is_smaller y x ≡ false)

-- what is true of all items after one is placed was true of it and of the others
all_unplaced : (P : Item → Type 0) (x : Item) (ys : List Item) → AllByRecursion P (placed x ys) → P x × AllByRecursion P ys
all_unplaced P x [] h = (h.0, tt)
all_unplaced P x (y ∷ ys) h = (elim (is_smaller y x) as (λ b. AllByRecursion P (if b then y ∷ placed x ys else x ∷ y ∷ ys) → P x × AllByRecursion P (y ∷ ys)) [
  | true ↦ λ k. let rest = all_unplaced P x ys k.1 in (rest.0, (k.0, rest.1))
  | false ↦ λ k. (k.0, k.1)
]) h

pub all_unsorted : (P : Item → Type 0) (xs : List Item) → AllByRecursion P (sorted xs) → AllByRecursion P xs
all_unsorted P [] h = tt
all_unsorted P (x ∷ xs) h = let rest = all_unplaced P x (sorted xs) h in (rest.0, all_unsorted P xs rest.1)

has_unplaced : (x z : Item) (ys : List Item) → Has z (placed x ys) → (x ≡ z) ⊎ Has z ys
has_unplaced x z [] h = h
has_unplaced x z (y ∷ ys) h = (elim (is_smaller y x) as (λ b. Has z (if b then y ∷ placed x ys else x ∷ y ∷ ys) → (x ≡ z) ⊎ Has z (y ∷ ys)) [
  | true ↦ λ k. elim k [
    | inl here ↦ inr (inl here)
    | inr later ↦ elim (has_unplaced x z ys later) [ inl one ↦ inl one | inr other ↦ inr (inr other) ]
  ]
  | false ↦ λ k. k
]) h

-- an item of the sorted list is one of the content
pub has_unsorted : (z : Item) (xs : List Item) → Has z (sorted xs) → Has z xs
has_unsorted z [] h = h
has_unsorted z (x ∷ xs) h = elim (has_unplaced x z (sorted xs) h) [ inl one ↦ inl one | inr other ↦ inr (has_unsorted z xs other) ]

pub same_as_itself : (x : Item) → is_same x x ≡ true
same_as_itself x = ap is_eq (tied_itself item_total x)

-- the first item of a list is what `without` takes away
pub without_first : (x : Item) (xs : List Item) → without x (x ∷ xs) ≡ xs
without_first x xs = ap (λ b. if b then xs else x ∷ without x xs) (same_as_itself x)

-- an item that no item is smaller than goes first
pub placed_least : (x : Item) (ys : List Item) → IsNoneBelow x ys → placed x ys ≡ x ∷ ys
placed_least x [] h = refl
placed_least x (y ∷ ys) h = ap (λ b. if b then y ∷ placed x ys else x ∷ y ∷ ys) h.0

pub none_below_sorted : (x : Item) (xs : List Item) → IsNoneBelow x xs → IsNoneBelow x (sorted xs)
none_below_sorted x xs h = all_sorted (λ y. is_smaller y x ≡ false) xs h

-- another item than the first is taken from the rest
without_other : (x y : Item) (ys : List Item) → IsSmaller x y → without x (y ∷ ys) ≡ y ∷ without x ys
without_other x y ys less = ap (λ b. if b then ys else y ∷ without x ys) (ap is_eq less)

-- an item is placed behind a smaller one
placed_second : (x y : Item) (zs : List Item) → IsSmaller x y → placed y (x ∷ zs) ≡ x ∷ placed y zs
placed_second x y zs less = ap (λ b. if b then x ∷ placed y zs else y ∷ x ∷ zs) (ap is_lt less)

-- a least item of a content, and then the content without it
sorted_least : (x : Item) (xs : List Item) → IsNoneBelow x xs → Has x xs → sorted xs ≡ x ∷ sorted (without x xs)
sorted_least x [] low h = absurd h
sorted_least x (y ∷ ys) low h = elim (ranked y x) [
  | Below less greater ↦ let bad : true ≡ false = sym (ap is_lt less) ∙ low.0 in cc
  | Same same ↦
      let first : sorted (y ∷ ys) ≡ x ∷ sorted ys = ap (λ z. placed z (sorted ys)) same ∙ placed_least x (sorted ys) (none_below_sorted x ys low.1) in
      let rest : without x (y ∷ ys) ≡ ys = ap (λ z. without x (z ∷ ys)) same ∙ without_first x ys in
      first ∙ ap (λ zs. x ∷ sorted zs) (sym rest)
  | Above greater less ↦
      let later : Has x ys = elim h [ inl here ↦ absurd (not_smaller_than_itself x (subst (IsSmaller x) here less)) | inr there ↦ there ] in
      let rest : without x (y ∷ ys) ≡ y ∷ without x ys = without_other x y ys less in
      ap (placed y) (sorted_least x ys low.1 later) ∙ (placed_second x y (sorted (without x ys)) less ∙ ap (λ zs. x ∷ sorted zs) (sym rest))
]

pub not_below : (x y : Item) → IsSmaller x y → is_smaller y x ≡ false
not_below x y less = elim (ranked x y) [
  | Below less' greater ↦ ap is_lt greater
  | Same same ↦ absurd (not_smaller_than_itself x (subst (IsSmaller x) (sym same) less))
  | Above greater less' ↦ let bad : Less ≡ Greater = sym less ∙ greater in cc
]

-- no item of a content is smaller than the first of its sorted list
pub none_below_first : (x : Item) (rest c : List Item) → sorted c ≡ x ∷ rest → IsAscending (x ∷ rest) → IsNoneBelow x c
none_below_first x rest c first up =
    let itself : is_smaller x x ≡ false = ap is_lt (tied_itself item_total x) in
    all_unsorted (λ y. is_smaller y x ≡ false) c (subst (IsNoneBelow x) (sym first) (itself, all_weaker (IsSmaller x) (λ y. is_smaller y x ≡ false) (λ y less. not_below x y less) rest up.0))

-- without that item the rest of the sorted list is left
pub sorted_without_first : (x : Item) (rest c : List Item) → sorted c ≡ x ∷ rest → IsAscending (x ∷ rest) → sorted (without x c) ≡ rest
sorted_without_first x rest c first up =
    let own = sorted_least x c (none_below_first x rest c first up) (has_unsorted x c (subst (Has x) (sym first) (inl refl))) in
    let both : x ∷ rest ≡ x ∷ sorted (without x c) = sym first ∙ own in cc

pub skipped_none : (x : Item) (c : List Item) → IsNoneBelow x c → skipped c x ≡ 0
skipped_none x [] h = refl
skipped_none x (y ∷ ys) h =
    let none : skipped ys x ≡ 0 = skipped_none x ys h.1 in
    let rest : 0 + skipped ys x ≡ 0 = omega arith in
    sum_by-cons (λ z. cond (is_smaller z x) 1 0) y ys ∙ (ap (λ (b : Bool). cond b 1 0 + skipped ys x) h.0 ∙ rest)

-- a deletion of that item skips none
pub skipped_first : (x : Item) (rest c : List Item) → sorted c ≡ x ∷ rest → IsAscending (x ∷ rest) → skipped c x ≡ 0
skipped_first x rest c first up = skipped_none x c (none_below_first x rest c first up)
