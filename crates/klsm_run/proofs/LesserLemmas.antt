-- The lesser of two items, and the least item of two contents together.
use Rattle.std.proofs.Common.{◌≡◌, Bool, true, false, List, [], ◌∷◌, ◌++◌, Option, Some, None, refl, sym, ap, ◌∙◌, subst, if◌then◌else◌}
use Rattle.std.specs.List.{slice_get}
use Rattle.klsm_run.specs.declared.item.Item.{Item}
use Rattle.klsm_run.specs.ItemOrder.{is_smaller, IsSmaller}
use Rattle.klsm_run.specs.Content.{placed, sorted}
use Rattle.klsm_run.proofs.OrderLemmas.{smaller_trans, Below, Same, Above, ranked}
use Rattle.klsm_run.proofs.ContentLemmas.{not_smaller_itself}

-- the lesser of two items
abbrev pub lesser_item : Item → Item → Item
lesser_item x y = if is_smaller y x then y else x

-- the lesser of two items, where there are two
abbrev pub lesser : Option Item → Option Item → Option Item
lesser None o = o
lesser (Some x) None = Some x
lesser (Some x) (Some y) = Some (lesser_item x y)

pub lesser_second : (x y : Item) → is_smaller y x ≡ true → lesser_item x y ≡ y
lesser_second x y smaller = rw smaller refl

pub lesser_first : (x y : Item) → is_smaller y x ≡ false → lesser_item x y ≡ x
lesser_first x y not_smaller = rw not_smaller refl

pub less_if_smaller : (x y : Item) → is_smaller x y ≡ true → IsSmaller x y
less_if_smaller x y smaller = elim (ranked x y) [
  | Below less greater ↦ less
  | Same same ↦ let bad : false ≡ true = sym (not_smaller_itself y x same) ∙ smaller in cc
  | Above greater less ↦ let bad : false ≡ true = rw greater at smaller in cc
]

-- an item that is not smaller than the second, which is not smaller than the first, is not smaller than the first
pub not_smaller_trans : (x y z : Item) → is_smaller y x ≡ false → is_smaller z y ≡ false → is_smaller z x ≡ false
not_smaller_trans x y z xy yz = elim (ranked z x) [
  | Below less greater ↦ elim (ranked z y) [
    | Below less' greater' ↦ let bad : true ≡ false = rw less' at yz in cc
    | Same same ↦ let z_less : is_smaller z x ≡ true = rw less refl in let bad : true ≡ false = sym (subst (λ w. is_smaller w x ≡ true) same z_less) ∙ xy in cc
    | Above greater' less' ↦ let bad : true ≡ false = rw (smaller_trans y z x less' less) at xy in cc
  ]
  | Same same ↦ not_smaller_itself x z same
  | Above greater less ↦ rw greater refl
]

lesser_assoc_by : (x y z : Item) (b c : Bool) → is_smaller y x ≡ b → is_smaller z y ≡ c → lesser_item x (lesser_item y z) ≡ lesser_item (lesser_item x y) z
lesser_assoc_by x y z true true xy yz =
    let xz : is_smaller z x ≡ true = rw (smaller_trans z y x (less_if_smaller z y yz) (less_if_smaller y x xy)) refl in
    ap (lesser_item x) (lesser_second y z yz) ∙ (lesser_second x z xz ∙ sym (ap (λ w. lesser_item w z) (lesser_second x y xy) ∙ lesser_second y z yz))
lesser_assoc_by x y z true false xy yz =
    ap (lesser_item x) (lesser_first y z yz) ∙ (lesser_second x y xy ∙ sym (ap (λ w. lesser_item w z) (lesser_second x y xy) ∙ lesser_first y z yz))
lesser_assoc_by x y z false true xy yz =
    ap (lesser_item x) (lesser_second y z yz) ∙ sym (ap (λ w. lesser_item w z) (lesser_first x y xy))
lesser_assoc_by x y z false false xy yz =
    ap (lesser_item x) (lesser_first y z yz) ∙ (lesser_first x y xy ∙ sym (ap (λ w. lesser_item w z) (lesser_first x y xy) ∙ lesser_first x z (not_smaller_trans x y z xy yz)))

lesser_assoc : (x : Item) (o p : Option Item) → lesser (Some x) (lesser o p) ≡ lesser (lesser (Some x) o) p
lesser_assoc x None p = refl
lesser_assoc x (Some y) None = refl
lesser_assoc x (Some y) (Some z) = ap Some (lesser_assoc_by x y z (is_smaller y x) (is_smaller z y) refl refl)

pub first_placed : (x : Item) (ys : List Item) → slice_get (placed x ys) 0 ≡ lesser (Some x) (slice_get ys 0)
first_placed x [] = refl
first_placed x (y ∷ ys) = elim (is_smaller y x) as (λ b. slice_get (if b then y ∷ placed x ys else x ∷ y ∷ ys) 0 ≡ Some (if b then y else x)) [ true ↦ refl | false ↦ refl ]

-- the least item of two contents together is the lesser of their least items
pub first_append : (xs ys : List Item) → slice_get (sorted (xs ++ ys)) 0 ≡ lesser (slice_get (sorted xs) 0) (slice_get (sorted ys) 0)
first_append [] ys = refl
first_append (x ∷ xs) ys =
    first_placed x (sorted (xs ++ ys))
    ∙ (ap (lesser (Some x)) (first_append xs ys)
    ∙ (lesser_assoc x (slice_get (sorted xs) 0) (slice_get (sorted ys) 0)
    ∙ ap (λ (o : Option Item). lesser o (slice_get (sorted ys) 0)) (sym (first_placed x (sorted xs)))))
