-- Items of which none is there twice, and some of them.
use Rattle.std.proofs.Common.{◌≡◌, ◌≢◌, ℕ, Bool, true, false, List, [], ◌∷◌, ◌++◌, refl, subst, if◌then◌else◌}
use Rattle.std.specs.Prelude.{◌==◌}
use Rattle.std.specs.List.{AllByRecursion}
use Rattle.klsm_run.specs.declared.item.Item.{Item}
use Rattle.klsm_run.specs.ItemOrder.{is_smaller, IsSmaller}
use Rattle.klsm_run.specs.Content.{placed, sorted, IsAscending}
use Rattle.klsm_run.proofs.AllLemmas.{all_weaker, all_append, all_front, all_back}
use Rattle.klsm_run.proofs.OrderLemmas.{not_smaller_than_itself}
use Rattle.klsm_run.proofs.LesserLemmas.{less_if_smaller}
use Rattle.klsm_run.proofs.LeastLemmas.{all_unsorted}
use Rattle.klsm_run.proofs.SortedLemmas.{IsNew, all_sorted, ascending_placed}
use Rattle.klsm_run.proofs.ApartLemmas.{AreApart}
use Rattle.klsm_pile.specs.Piece.{PieceState}
use Rattle.klsm_pile.specs.Pieces.{counted, items_where, at_level, every_item}
use Rattle.klsm_pile.proofs.FrontLemmas.{all_picked}

all_behind : (P : Item → Type 0) (x : Item) (ys : List Item) → AllByRecursion P (placed x ys) → AllByRecursion P ys
all_behind P x [] h = tt
all_behind P x (y ∷ ys) h = by_test (is_smaller y x) (λ k. all_behind P x ys k) h where
  by_test : (b : Bool) → (AllByRecursion P (placed x ys) → AllByRecursion P ys) → AllByRecursion P (if b then y ∷ placed x ys else x ∷ y ∷ ys) → AllByRecursion P (y ∷ ys)
  by_test true later k = (k.0, later k.1)
  by_test false later k = k.1

-- an item that is put into its place
new_behind : (x : Item) (ys : List Item) → IsAscending (placed x ys) → IsNew x ys × IsAscending ys
new_behind x [] up = (tt, tt)
new_behind x (y ∷ ys) up = by_test (is_smaller y x) refl (λ k. new_behind x ys k) up where
  by_test : (b : Bool) → is_smaller y x ≡ b → (IsAscending (placed x ys) → IsNew x ys × IsAscending ys) → IsAscending (if b then y ∷ placed x ys else x ∷ y ∷ ys) → IsNew x (y ∷ ys) × IsAscending (y ∷ ys)
  by_test true smaller later h =
      let rest = later h.1 in
      ((λ same. not_smaller_than_itself x (subst (λ z. IsSmaller z x) same (less_if_smaller y x smaller)), rest.0), (all_behind (IsSmaller y) x ys h.0, rest.1))
  by_test false not_smaller later h = (all_weaker (IsSmaller x) (λ z. z ≢ x) (λ z less same. not_smaller_than_itself x (subst (IsSmaller x) same less)) (y ∷ ys) h.0, h.1)

-- the items of two lists
pub apart_together : (xs ys : List Item) → IsAscending (sorted (xs ++ ys)) → AreApart xs ys
apart_together [] ys up = tt
apart_together (x ∷ xs) ys up =
    let rest = new_behind x (sorted (xs ++ ys)) up in
    (all_back (λ z. z ≢ x) xs ys (all_unsorted (λ z. z ≢ x) (xs ++ ys) rest.0), apart_together xs ys rest.1)

pub ascending_less : (xs ys : List Item) → IsAscending (sorted (xs ++ ys)) → IsAscending (sorted ys)
ascending_less [] ys up = up
ascending_less (x ∷ xs) ys up = ascending_less xs ys (new_behind x (sorted (xs ++ ys)) up).1

-- a part of a list
distinct_part : (xs ys zs : List Item) → ((P : Item → Type 0) → AllByRecursion P ys → AllByRecursion P zs) → (IsAscending (sorted ys) → IsAscending (sorted zs)) → IsAscending (sorted (xs ++ ys)) → IsAscending (sorted (xs ++ zs))
distinct_part [] ys zs part keeps up = keeps up
distinct_part (x ∷ xs) ys zs part keeps up =
    let rest = new_behind x (sorted (xs ++ ys)) up in
    let new : IsNew x (xs ++ ys) = all_unsorted (λ z. z ≡ x → ⊥) (xs ++ ys) rest.0 in
    let new_part : IsNew x (xs ++ zs) = all_append (λ z. z ≡ x → ⊥) xs zs (all_front (λ z. z ≡ x → ⊥) xs ys new) (part (λ z. z ≡ x → ⊥) (all_back (λ z. z ≡ x → ⊥) xs ys new)) in
    ascending_placed x (sorted (xs ++ zs)) (distinct_part xs ys zs part keeps rest.1) (all_sorted (λ z. z ≡ x → ⊥) (xs ++ zs) new_part)

-- the items of some levels
picked_distinct : (test : ℕ → Bool) (ps : List PieceState) → IsAscending (sorted (every_item ps)) → IsAscending (sorted (items_where test ps))
picked_distinct test [] up = tt
picked_distinct test (p ∷ ps) up = by (test p.level) (picked_distinct test ps) where
  by : (b : Bool) → (IsAscending (sorted (every_item ps)) → IsAscending (sorted (items_where test ps))) → IsAscending (sorted (counted b p.items ++ items_where test ps))
  by true keeps = distinct_part p.items (every_item ps) (items_where test ps) (λ P. all_picked P test ps) keeps up
  by false keeps = keeps (ascending_less p.items (every_item ps) up)

pub level_distinct : (l : ℕ) (ps : List PieceState) → IsAscending (sorted (every_item ps)) → IsAscending (sorted (at_level l ps))
level_distinct l ps up = picked_distinct (λ n. n == l) ps up
