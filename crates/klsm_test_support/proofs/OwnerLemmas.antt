-- Items that are told apart by their owners and numbers.
use Rattle.std.proofs.Common.{◌≡◌, ◌≢◌, ℕ, ◌+◌, ◌<◌, ◌≤◌, List, [], ◌∷◌, ◌++◌, length, ap, arith, Result, Ok, Err, OnOk, OnErr}
use Rattle.std.specs.List.{All, AllByRecursion, Contains}
use Rattle.std.proofs.lemmas.List.{length-append}
use Rattle.std.proofs.lemmas.List.Elements.{All-from_recursion, recursion_from_All}
use Rattle.klsm_run.specs.declared.item.Item.{Item}
use Rattle.klsm_run.specs.Content.{sorted, ShareNone}
use Rattle.klsm_run.proofs.AllLemmas.{all_weaker, all_append}
use Rattle.klsm_run.proofs.SortedLemmas.{IsNew, all_sorted, length_sorted}
use Rattle.klsm_run.proofs.ContentLemmas.{absent_if_new, sharing_none_if_apart}
use Rattle.klsm_lsm.specs.Lsm.{content}
use Rattle.klsm_lsm.specs.Adding.{add, cut}
use Rattle.klsm_lsm.proofs.AddLemmas.{all_add}
use Rattle.klsm_lsm.proofs.CutLemmas.{all_cut}

-- each item is an owner's
abbrev pub AreOf : ℕ → List Item → Type 0
AreOf owner = AllByRecursion (λ x. x.stamp.owner ≡ owner)

-- each owner is below this one
abbrev pub OwnersBelow : ℕ → List Item → Type 0
OwnersBelow owner = AllByRecursion (λ x. x.stamp.owner < owner)

-- each number is below n
abbrev pub NumbersBelow : ℕ → List Item → Type 0
NumbersBelow n = AllByRecursion (λ x. x.stamp.number < n)

pub below_weaker : (k l : ℕ) (xs : List Item) → k ≤ l → OwnersBelow k xs → OwnersBelow l xs
below_weaker k l xs less = all_weaker (λ x. x.stamp.owner < k) (λ x. x.stamp.owner < l) (λ x h. omega (arith, h, less)) xs

pub below_if_of : (owner l : ℕ) (xs : List Item) → owner < l → AreOf owner xs → OwnersBelow l xs
below_if_of owner l xs less = all_weaker (λ x. x.stamp.owner ≡ owner) (λ x. x.stamp.owner < l) (λ x h. omega (arith, h, less)) xs

-- items of lesser owners, and an owner's
pub apart_by_owner : (owner : ℕ) (xs ys : List Item) → OwnersBelow owner xs → AreOf owner ys → ShareNone xs ys
apart_by_owner owner xs ys below of =
    sharing_none_if_apart xs ys (all_weaker (λ x. x.stamp.owner < owner) (λ x. IsNew x ys) (λ x low. all_weaker (λ y. y.stamp.owner ≡ owner) (λ y. y ≢ x) (λ y at is. omega (arith, low, at, ap (λ (z : Item). z.stamp.owner) is)) ys of) xs below)

-- the items of two runs in one
pub below_merged : (l : ℕ) (xs ys both : List Item) → both ≡ sorted (xs ++ ys) → OwnersBelow l xs → OwnersBelow l ys → OwnersBelow l both
below_merged l xs ys both is left right = rw is (all_sorted (λ x. x.stamp.owner < l) (xs ++ ys) (all_append (λ x. x.stamp.owner < l) xs ys left right))

-- an owner's first items
pub record AreFirst (owner n : ℕ) (run : List Item) : Type 0 where
  pub len : length run ≡ n
  pub owner_is : AreOf owner run
  pub numbers : NumbersBelow n run

-- the item of the next number is new
pub absent_next : (n : ℕ) (x : Item) (xs : List Item) → x.stamp.number ≡ n → NumbersBelow n xs → Contains xs x → ⊥
absent_next n x xs is below = absent_if_new x xs (all_weaker (λ y. y.stamp.number < n) (λ y. y ≢ x) (λ y low same. omega (arith, ap (λ (z : Item). z.stamp.number) same, is, low)) xs below)

pub first_more : (owner n : ℕ) (old new : List Item) (x : Item) → new ≡ sorted (old ++ x ∷ []) → x.stamp.owner ≡ owner → x.stamp.number ≡ n → AreFirst owner n old → AreFirst owner (n + 1) new
first_more owner n old new x is of at first = rw is record {
  len = omega (arith, length_sorted (old ++ x ∷ []), length-append old (x ∷ []), first.len);
  owner_is = all_sorted (λ y. y.stamp.owner ≡ owner) (old ++ x ∷ []) (all_append (λ y. y.stamp.owner ≡ owner) old (x ∷ []) first.owner_is (of, tt));
  numbers = all_sorted (λ y. y.stamp.number < n + 1) (old ++ x ∷ []) (all_append (λ y. y.stamp.number < n + 1) old (x ∷ []) (all_weaker (λ y. y.stamp.number < n) (λ y. y.stamp.number < n + 1) (λ y h. omega (arith, h)) old first.numbers) (omega (arith, at), tt));
}

-- blocks after a greater owner's items were put in, or refused
pub below_after : {T E : Type 0} (r : Result T E) (owner : ℕ) (old new : List (List Item)) (run : List Item) → OnOk r (new ≡ add old run) → OnErr r (new ≡ old) → OwnersBelow owner (content old) → AreOf owner run → OwnersBelow (owner + 1) (content new)
below_after (Ok t) owner old new run added same below of =
    rw added (all_add (λ x. x.stamp.owner < owner + 1) old run (below_weaker owner (owner + 1) (content old) (omega arith) below) (below_if_of owner (owner + 1) run (omega arith) of))
below_after (Err e) owner old new run added same below of = rw same (below_weaker owner (owner + 1) (content old) (omega arith) below)

-- an item's owner is below this one
abbrev pub IsOwnedBelow : ℕ → Item → Type 0
IsOwnedBelow owner x = x.stamp.owner < owner

-- the same, item by item
pub owned_after : {T E : Type 0} (r : Result T E) (owner next : ℕ) (old new : List (List Item)) (run : List Item) → OnOk r (new ≡ add old run) → OnErr r (new ≡ old) → next ≡ owner + 1 → All (IsOwnedBelow owner) (content old) → AreOf owner run → All (IsOwnedBelow next) (content new)
owned_after r owner next old new run added same is below of =
    rw is (All-from_recursion (IsOwnedBelow (owner + 1)) (content new) (below_after r owner old new run added same (recursion_from_All (IsOwnedBelow owner) (content old) below) of))

-- blocks without an item
pub owned_cut : (owner at index : ℕ) (old new : List (List Item)) → new ≡ cut old at index → All (IsOwnedBelow owner) (content old) → All (IsOwnedBelow owner) (content new)
owned_cut owner at index old new is below =
    rw is (All-from_recursion (IsOwnedBelow owner) (content (cut old at index)) (all_cut (IsOwnedBelow owner) old at index (recursion_from_All (IsOwnedBelow owner) (content old) below)))

-- a run of the next owner shares no item with the blocks
pub owned_apart : (owner : ℕ) (blocks : List (List Item)) (run : List Item) → All (IsOwnedBelow owner) (content blocks) → AreOf owner run → ShareNone (content blocks) run
owned_apart owner blocks run below of = apart_by_owner owner (content blocks) run (recursion_from_All (IsOwnedBelow owner) (content blocks) below) of

-- an item of the next owner is not in the blocks
pub owned_new : (owner : ℕ) (blocks : List (List Item)) (x : Item) → All (IsOwnedBelow owner) (content blocks) → x.stamp.owner ≡ owner → Contains (content blocks) x → ⊥
owned_new owner blocks x below is =
    absent_if_new x (content blocks) (all_weaker (λ y. y.stamp.owner < owner) (λ y. y ≢ x) (λ y low same. omega (arith, ap (λ (z : Item). z.stamp.owner) same, is, low)) (content blocks) (recursion_from_All (IsOwnedBelow owner) (content blocks) below))
