-- The front has as many items as it needs, and no piece is empty.
use Rattle.std.proofs.Common.{◌≡◌, ℕ, ◌<◌, Bool, true, false, List, [], ◌∷◌, ◌++◌, length, get_or, remove, refl, sym, ap, ◌∙◌, subst, arith, zero, suc, inl, inr}
use Rattle.std.specs.Prelude.{◌==◌}
use Rattle.std.specs.List.{AllByRecursion}
use Rattle.klsm_run.specs.declared.item.Item.{Item}
use Rattle.klsm_run.specs.ItemOrder.{IsSmaller}
use Rattle.klsm_run.specs.Block.{HasLevel}
use Rattle.klsm_run.specs.Content.{sorted}
use Rattle.klsm_lsm.specs.Lsm.{IsLsm}
use Rattle.klsm_pile.specs.declared.fetched.Fetched.{Fetched}
use Rattle.klsm_pile.specs.Piece.{PieceState}
use Rattle.klsm_pile.specs.Pieces.{counted, items_where, at_level, HaveSame}
use Rattle.klsm_pile.specs.Fetching.{IsFilled}
use Rattle.klsm_pile.specs.Front.{singles, parts, front_items, IsFront}
use Rattle.klsm_pile.specs.Piles.{IsConsistent}
use Rattle.klsm_pile.proofs.RaisedLemmas.{picked_append}
use Rattle.klsm_pile.proofs.AddingLemmas.{length_same}
use Rattle.klsm_pile.proofs.FrontLemmas.{blocks_same}
use Rattle.klsm_pile.proofs.StoreLemmas.{AreBelowLevel, none_there}
use Rattle.klsm_run.proofs.AllLemmas.{all_append, all_front, all_back}

-- a piece with no item goes
pub picked_without : (test : ℕ → Bool) (ps : List PieceState) (at : ℕ) (d : PieceState) → at < length ps → length (get_or ps at d).items ≡ 0 → items_where test (remove ps at) ≡ items_where test ps
picked_without test [] at d within none = absurd (omega (arith, within))
picked_without test (p ∷ ps) zero d within none = nothing (test p.level) p.items (none_there p.items none) where
  nothing : (b : Bool) (xs : List Item) → xs ≡ [] → items_where test ps ≡ counted b xs ++ items_where test ps
  nothing true xs e = ap (λ ys. ys ++ items_where test ps) (sym e)
  nothing false xs e = refl
picked_without test (p ∷ ps) (suc at) d within none = ap (λ xs. counted (test p.level) p.items ++ xs) (picked_without test ps at d (omega (arith, within)) none)

pub below_without_one : (levels : ℕ) (ps : List PieceState) (at : ℕ) → AreBelowLevel levels ps → AreBelowLevel levels (remove ps at)
below_without_one levels [] zero below = tt
below_without_one levels [] (suc at) below = tt
below_without_one levels (p ∷ ps) zero below = below.1
below_without_one levels (p ∷ ps) (suc at) below = (below.0, below_without_one levels ps at below.1)

-- a pile whose items lie elsewhere at the same levels
pub held_still : (levels : ℕ) (front after : List Fetched) (pieces rest : List PieceState) (counts : List ℕ) → HaveSame (parts after rest) (parts front pieces) → AreBelowLevel levels (parts after rest) → IsFront after rest → IsConsistent levels front pieces counts → IsConsistent levels after rest counts
held_still levels front after pieces rest counts same below ordered held = record {
  numbered = λ l. elim (held.numbered l) [
    | inl none ↦ inl (none_there (at_level l (parts after rest)) (length_same (at_level l (parts after rest)) (at_level l (parts front pieces)) (same (λ n. n == l)) ∙ ap length none))
    | inr has ↦ inr (subst (HasLevel l) (sym (length_same (at_level l (parts after rest)) (at_level l (parts front pieces)) (same (λ n. n == l)))) has)
  ];
  below = below;
  lawful = subst IsLsm (sym (blocks_same levels (parts after rest) (parts front pieces) (λ l. same (λ n. n == l)))) held.lawful;
  ordered = ordered;
  counted = λ l less. held.counted l less ∙ sym (length_same (at_level l (parts after rest)) (at_level l (parts front pieces)) (same (λ n. n == l)));
}

-- the empty pieces are gone, and the pile is as it was
pub filled_same : (front after : List Fetched) (pieces mid rest : List PieceState) → IsFilled front pieces after mid → ((test : ℕ → Bool) → items_where test rest ≡ items_where test mid) → HaveSame (parts after rest) (parts front pieces)
filled_same front after pieces mid rest filled same test =
    ap sorted (picked_append test (singles after) rest)
    ∙ (ap (λ xs. sorted (items_where test (singles after) ++ xs)) (same test)
    ∙ (sym (ap sorted (picked_append test (singles after) mid)) ∙ filled.same test))

pub filled_held : (levels : ℕ) (front after : List Fetched) (pieces mid rest : List PieceState) (counts : List ℕ) → IsFilled front pieces after mid → ((test : ℕ → Bool) → items_where test rest ≡ items_where test mid)
    → ((n : ℕ) → AreBelowLevel n mid → AreBelowLevel n rest) → IsConsistent levels front pieces counts → IsConsistent levels after rest counts
filled_held levels front after pieces mid rest counts filled same below held =
    let of_mid : AreBelowLevel levels (parts after mid) = filled.below levels held.below in
    held_still levels front after pieces rest counts (filled_same front after pieces mid rest filled same)
    (all_append (λ (p : PieceState). p.level < levels) (singles after) rest (all_front (λ (p : PieceState). p.level < levels) (singles after) mid of_mid) (below levels (all_back (λ (p : PieceState). p.level < levels) (singles after) mid of_mid)))
    (record {
      ascending = filled.ordered.ascending;
      least = subst (λ ys. AllByRecursion (λ x. AllByRecursion (IsSmaller x) ys) (front_items after)) (sym (same (λ n. true))) filled.ordered.least;
    })
    held

-- at the values of the code
pub picked_gone : (test : ℕ → Bool) (ps after : List PieceState) (at : ℕ) (d : PieceState) (n : ℕ) → at < length ps → d ≡ get_or ps at d → n ≡ length d.items → n ≡ 0 → after ≡ remove ps at → items_where test after ≡ items_where test ps
picked_gone test ps after at d n within is size none after_is =
    ap (items_where test) after_is ∙ picked_without test ps at d within (ap (λ (p : PieceState). length p.items) (sym is) ∙ (sym size ∙ none))

pub below_gone : (levels : ℕ) (ps after : List PieceState) (at : ℕ) → after ≡ remove ps at → AreBelowLevel levels ps → AreBelowLevel levels after
below_gone levels ps after at is below = subst (AreBelowLevel levels) (sym is) (below_without_one levels ps at below)
