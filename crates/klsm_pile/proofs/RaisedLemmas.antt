-- What the levels have once some pieces have another number.
use Rattle.std.proofs.Common.{◌≡◌, ℕ, ◌<◌, ◌≤◌, Bool, true, false, List, [], ◌∷◌, ◌++◌, refl, sym, ap, ◌∙◌, eq-eqb, ne_eqb, suc, ◌⊎◌, inl, inr}
use Rattle.std.specs.Prelude.{◌==◌}
use Rattle.std.proofs.lemmas.Bool.{cases_eq}
use Rattle.std.proofs.lemmas.List.{append_assoc}
use Rattle.klsm_run.specs.declared.item.Item.{Item}
use Rattle.klsm_run.specs.Content.{sorted}
use Rattle.klsm_run.proofs.ContentLemmas.{sorted_swap, sorted_same_behind}
use Rattle.klsm_pile.specs.Piece.{PieceState}
use Rattle.klsm_pile.specs.Pieces.{counted, items_where, at_level, is_between, items_between}
use Rattle.klsm_pile.specs.Renumbering.{raised}
use Rattle.klsm_pile.proofs.NumberLemmas.{raised_other, raised_left, raised_here, between_none, between_last, between_not_last, between_other}

pub picked_append : (test : ℕ → Bool) (ps qs : List PieceState) → items_where test (ps ++ qs) ≡ items_where test ps ++ items_where test qs
picked_append test [] qs = refl
picked_append test (p ∷ ps) qs = ap (λ xs. counted (test p.level) p.items ++ xs) (picked_append test ps qs) ∙ sym (append_assoc (counted (test p.level) p.items) (items_where test ps) (items_where test qs))

pub at_level_append : (l : ℕ) (ps qs : List PieceState) → at_level l (ps ++ qs) ≡ at_level l ps ++ at_level l qs
at_level_append l = picked_append (λ n. n == l)

pub level_kept : (from to l : ℕ) (ps : List PieceState) → from ≤ to → (l < from) ⊎ (to < l) → at_level l (raised from to ps) ≡ at_level l ps
level_kept from to l [] order out = refl
level_kept from to l (p ∷ ps) order out =
    ap (λ b. counted b p.items ++ at_level l (raised from to ps)) (raised_other from to l p.level order out)
    ∙ ap (λ xs. counted (p.level == l) p.items ++ xs) (level_kept from to l ps order out)

pub level_left : (from to l : ℕ) (ps : List PieceState) → from ≤ l → l < to → at_level l (raised from to ps) ≡ []
level_left from to l [] at_least below = refl
level_left from to l (p ∷ ps) at_least below =
    ap (λ b. counted b p.items ++ at_level l (raised from to ps)) (raised_left from to l p.level at_least below)
    ∙ level_left from to l ps at_least below

pub level_here : (from to : ℕ) (ps : List PieceState) → from ≤ to → at_level to (raised from to ps) ≡ items_between from (suc to) ps
level_here from to [] order = refl
level_here from to (p ∷ ps) order =
    ap (λ b. counted b p.items ++ at_level to (raised from to ps)) (raised_here from to p.level order)
    ∙ ap (λ xs. counted (is_between from (suc to) p.level) p.items ++ xs) (level_here from to ps order)

pub between_empty : (from : ℕ) (ps : List PieceState) → items_between from from ps ≡ []
between_empty from [] = refl
between_empty from (p ∷ ps) = ap (λ b. counted b p.items ++ items_between from from ps) (between_none from p.level) ∙ between_empty from ps

-- items that are put before the second of two lists
sorted_between : (xs ys zs : List Item) → sorted (ys ++ (xs ++ zs)) ≡ sorted (xs ++ (ys ++ zs))
sorted_between xs ys zs = sorted_swap ys (xs ++ zs) ∙ (ap sorted (append_assoc xs zs ys) ∙ sorted_same_behind xs (zs ++ ys) (ys ++ zs) (sorted_swap zs ys))

-- the last level of a range, and the others
pub between_splits : (from to : ℕ) (ps : List PieceState) → from ≤ to → sorted (items_between from (suc to) ps) ≡ sorted (at_level to ps ++ items_between from to ps)
between_splits from to [] order = refl
between_splits from to (p ∷ ps) order = elim (cases_eq p.level to) [
  | inl same ↦
      let last : is_between from (suc to) p.level ≡ true = ap (is_between from (suc to)) same ∙ between_last from to order in
      let not_last : is_between from to p.level ≡ false = ap (is_between from to) same ∙ between_not_last from to order in
      rw (last, not_last, eq-eqb p.level to same)
      (sorted_same_behind p.items (items_between from (suc to) ps) (at_level to ps ++ items_between from to ps) (between_splits from to ps order)
      ∙ ap sorted (sym (append_assoc p.items (at_level to ps) (items_between from to ps))))
  | inr differ ↦
      rw (between_other from to p.level differ, ne_eqb p.level to differ)
      (sorted_same_behind (counted (is_between from to p.level) p.items) (items_between from (suc to) ps) (at_level to ps ++ items_between from to ps) (between_splits from to ps order)
      ∙ sym (sorted_between (counted (is_between from to p.level) p.items) (at_level to ps) (items_between from to ps)))
]
