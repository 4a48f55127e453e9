-- Lists that are equal item by item are one.
use Rattle.std.proofs.Common.{◌≡◌, ◌&&◌, ℕ, Bool, true, false, List, refl, sym, ap, ◌∙◌}
use Rattle.std.proofs.lemmas.Bool.{eqb-true, eq-eqb}
use Rattle.std.specs.Cmp.Lexicographic.{pointwise, pointwise_decides}
use lib.Dec.{eqb}
use Rattle.klsm_run.specs.declared.item.Stamp.{Stamp}
use Rattle.klsm_run.specs.declared.item.Item.{Item}

-- whether the fields of two items are equal: what `==` computes
abbrev pub are_equal : Item → Item → Bool
are_equal x y = eqb x.key y.key && ((eqb x.stamp.owner y.stamp.owner && eqb x.stamp.number y.stamp.number) && eqb x.load y.load)

-- an item is equal to itself
pub equal_itself : (x : Item) → are_equal x x ≡ true
equal_itself x = simp (eq-eqb x.key x.key refl, eq-eqb x.stamp.owner x.stamp.owner refl, eq-eqb x.stamp.number x.stamp.number refl, eq-eqb x.load x.load refl)

both : (a b : Bool) → (a && b) ≡ true → (a ≡ true) × (b ≡ true)
both true true is = (refl, refl)
both true false is = cc
both false b is = cc

-- items with equal fields are one
pub same_if_equal : (x y : Item) → are_equal x y ≡ true → x ≡ y
same_if_equal x y is =
    let all = both (eqb x.key y.key) ((eqb x.stamp.owner y.stamp.owner && eqb x.stamp.number y.stamp.number) && eqb x.load y.load) is in
    let later = both (eqb x.stamp.owner y.stamp.owner && eqb x.stamp.number y.stamp.number) (eqb x.load y.load) all.1 in
    let stamps = both (eqb x.stamp.owner y.stamp.owner) (eqb x.stamp.number y.stamp.number) later.0 in
    let key : x.key ≡ y.key = eqb-true x.key y.key all.0 in
    let owner : x.stamp.owner ≡ y.stamp.owner = eqb-true x.stamp.owner y.stamp.owner stamps.0 in
    let number : x.stamp.number ≡ y.stamp.number = eqb-true x.stamp.number y.stamp.number stamps.1 in
    let load : x.load ≡ y.load = eqb-true x.load y.load later.1 in
    let stamp : x.stamp ≡ y.stamp = ap (λ (o : ℕ). record { owner = o; number = x.stamp.number }) owner ∙ ap (λ (n : ℕ). record { owner = y.stamp.owner; number = n }) number in
    ap (λ (k : ℕ). record { key = k; stamp = x.stamp; load = x.load }) key
    ∙ (ap (λ (s : Stamp). record { key = y.key; stamp = s; load = x.load }) stamp ∙ ap (λ (l : ℕ). record { key = y.key; stamp = y.stamp; load = l }) load)

-- lists that are equal item by item are one
pub one_list_if_equal : (xs ys : List Item) (result : Bool) → result ≡ pointwise are_equal xs ys → (result ≡ true → xs ≡ ys) × (xs ≡ ys → result ≡ true)
one_list_if_equal xs ys result is =
    let decides = pointwise_decides (λ x y. (same_if_equal x y, λ one. ap (are_equal x) (sym one) ∙ equal_itself x)) xs ys in
    (λ so. decides.0 (sym is ∙ so), λ one. is ∙ decides.1 one)
