-- What the levels have once some of them have one number.
use Rattle.std.proofs.Common.{◌≡◌, ℕ, ◌<◌, ◌≤◌, List, [], ◌∷◌, ◌++◌, refl, ap, ◌∙◌, subst, arith, zero, suc, ◌⊎◌, inl, inr}
use Rattle.std.specs.Prelude.{◌==◌}
use Rattle.std.proofs.lemmas.Bool.{cases_lt}
use Rattle.std.proofs.lemmas.List.{append-nil}
use Rattle.klsm_run.specs.Content.{sorted}
use Rattle.klsm_pile.specs.Piece.{PieceState}
use Rattle.klsm_pile.specs.Pieces.{counted, at_level, is_between, items_between}
use Rattle.klsm_pile.specs.Settling.{regrouped}
use Rattle.klsm_pile.proofs.NumberLemmas.{regrouped_other, regrouped_left, regrouped_here}
use Rattle.klsm_pile.proofs.RaisedLemmas.{between_empty, between_splits}

pub group_kept : (low high to l : ℕ) (ps : List PieceState) → low ≤ to → to ≤ high → (l < low) ⊎ (high < l) → at_level l (regrouped low high to ps) ≡ at_level l ps
group_kept low high to l [] order within out = refl
group_kept low high to l (p ∷ ps) order within out =
    ap (λ b. counted b p.items ++ at_level l (regrouped low high to ps)) (regrouped_other low high to l p.level order within out)
    ∙ ap (λ xs. counted (p.level == l) p.items ++ xs) (group_kept low high to l ps order within out)

pub group_left : (low high to l : ℕ) (ps : List PieceState) → low ≤ l → l ≤ high → (to ≡ l → ⊥) → at_level l (regrouped low high to ps) ≡ []
group_left low high to l [] at_least at_most differ = refl
group_left low high to l (p ∷ ps) at_least at_most differ =
    ap (λ b. counted b p.items ++ at_level l (regrouped low high to ps)) (regrouped_left low high to l p.level at_least at_most differ)
    ∙ group_left low high to l ps at_least at_most differ

pub group_here : (low high to : ℕ) (ps : List PieceState) → low ≤ to → to ≤ high → at_level to (regrouped low high to ps) ≡ items_between low (suc high) ps
group_here low high to [] order within = refl
group_here low high to (p ∷ ps) order within =
    ap (λ b. counted b p.items ++ at_level to (regrouped low high to ps)) (regrouped_here low high to p.level order within)
    ∙ ap (λ xs. counted (is_between low (suc high) p.level) p.items ++ xs) (group_here low high to ps order within)

-- a range of levels that are free but for the first
pub between_low : (low to : ℕ) (ps : List PieceState) → low < to → ((l : ℕ) → low < l → l < to → at_level l ps ≡ []) → sorted (items_between low to ps) ≡ sorted (at_level low ps)
between_low low zero ps order free = absurd (omega (arith, order))
between_low low (suc t) ps order free = elim (cases_lt low t) [
  | inl more ↦
      between_splits low t ps (omega (arith, more))
      ∙ (ap (λ xs. sorted (xs ++ items_between low t ps)) (free t more (omega arith))
      ∙ between_low low t ps more (λ l above below. free l above (omega (arith, below))))
  | inr last ↦
      let e : low ≡ t = omega (arith, last, order) in
      subst (λ k. sorted (items_between low (suc k) ps) ≡ sorted (at_level low ps)) e
      (between_splits low low ps (omega arith) ∙ (ap (λ xs. sorted (at_level low ps ++ xs)) (between_empty low ps) ∙ ap sorted (append-nil (at_level low ps))))
]

-- a range of free levels
pub between_free : (low to : ℕ) (ps : List PieceState) → low ≤ to → ((l : ℕ) → low ≤ l → l < to → at_level l ps ≡ []) → sorted (items_between low to ps) ≡ []
between_free low to ps order free = elim (cases_lt low to) [
  | inl some ↦ between_low low to ps some (λ l above below. free l (omega (arith, above)) below) ∙ ap sorted (free low (omega arith) some)
  | inr none ↦ let e : low ≡ to = omega (arith, none, order) in subst (λ k. sorted (items_between low k ps) ≡ []) e (ap sorted (between_empty low ps))
]
