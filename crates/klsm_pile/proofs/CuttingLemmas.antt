-- Cutting items out is renumbering.
use Rattle.std.proofs.Common.{◌≡◌, ℕ, ◌<◌, ◌≤◌, List, [], ◌∷◌, ◌++◌, length, refl, sym, ap, ◌∙◌, subst, arith, ne_eqb, lt-ltb, le-ltb, zero, suc, ◌⊎◌, inl, inr}
use Rattle.std.proofs.lemmas.Bool.{cases_lt, cases_eq}
use Rattle.std.proofs.lemmas.List.{append-nil}
use Rattle.klsm_run.specs.declared.item.Item.{Item}
use Rattle.klsm_run.specs.Block.{HasLevel}
use Rattle.klsm_run.specs.Content.{sorted}
use Rattle.klsm_run.proofs.SortedLemmas.{length_sorted}
use Rattle.klsm_run.proofs.ContentLemmas.{sorted_same_behind, sorted_itself}
use Rattle.klsm_lsm.specs.Level.{least_level, level}
use Rattle.klsm_lsm.specs.Adding.{joined, without_items, cut_items}
use Rattle.klsm_lsm.proofs.JoinLemmas.{AllBelow}
use Rattle.klsm_pile.specs.Piece.{PieceState}
use Rattle.klsm_pile.specs.Pieces.{at_level, items_between, block_before, blocks_below}
use Rattle.klsm_pile.specs.Counting.{AreNumberedBelow}
use Rattle.klsm_pile.specs.Settling.{regrouped, one_more, place_of, IsLeft, IsSettling}
use Rattle.klsm_pile.specs.Piles.{AreNumbered}
use Rattle.klsm_pile.proofs.NumberLemmas.{some_of_level}
use Rattle.klsm_pile.proofs.RaisedLemmas.{between_splits}
use Rattle.klsm_pile.proofs.BlockLemmas.{block_some, level_is_number, levels_below, joined_apart, blocks_agree, blocks_skip}
use Rattle.klsm_pile.proofs.AddingLemmas.{sorted_same_before}
use Rattle.klsm_pile.proofs.SettlingLemmas.{group_kept, group_left, group_here, between_low, between_free}

one_more_some : (g : List Item) (n : ℕ) → 0 < length g → one_more g n ≡ suc n
one_more_some [] n some = absurd (omega (arith, some))
one_more_some (x ∷ xs) n some = refl

-- what is left of the block, joined to the blocks after it
joined_left : (l low to from count : ℕ) (ps qs : List PieceState) → AreNumberedBelow l ps → IsLeft l from count ps qs → IsSettling l low to qs
    → joined (without_items (sorted (at_level l ps)) from count) (blocks_below l ps) ≡ sorted (items_between low (suc l) qs) ∷ blocks_below low ps
joined_left l low to from count ps qs numbered left s =
    let rest : List Item = without_items (sorted (at_level l ps)) from count in
    let whole : List Item = items_between low (suc l) qs in
    let splits : sorted whole ≡ sorted (at_level l qs ++ items_between low l qs) = between_splits low l qs (omega (arith, s.order, s.within)) in
    elim s.next [
      | inl alone ↦
          let none : sorted (items_between low l qs) ≡ [] = between_free low l qs (omega (arith, s.order, s.within)) alone.free in
          let is : sorted whole ≡ rest = splits ∙ (sorted_same_behind (at_level l qs) (items_between low l qs) [] none ∙ (ap sorted (append-nil (at_level l qs)) ∙ left.here)) in
          let has : HasLevel low (length whole) = subst (λ k. HasLevel k (length whole)) (sym alone.same) s.has in
          let number : level rest ≡ low = ap level (sym is) ∙ level_is_number low whole has in
          let lower : blocks_below l ps ≡ blocks_below low ps =
          blocks_skip low l ps (omega (arith, s.order, s.within)) (λ k at_least below. sym (left.others k (λ e. omega (arith, e, below))) ∙ alone.free k at_least below) in
          ap (joined rest) lower
          ∙ (joined_apart rest (blocks_below low ps) (subst (λ k. AllBelow k (blocks_below low ps)) (sym number) (levels_below low ps (λ k less. numbered k (omega (arith, less, s.order, s.within)))))
          ∙ ap (λ xs. xs ∷ blocks_below low ps) (sym is))
      | inr both ↦
          let here : at_level low qs ≡ at_level low ps = left.others low (λ e. omega (arith, e, both.below)) in
          let g : List Item = at_level low ps in
          let some : 0 < length g = subst (λ xs. 0 < length xs) here both.some in
          let less : level rest ≤ low = subst (λ n. least_level n ≤ low) (sym (length_sorted (at_level l qs)) ∙ ap length left.here) both.no_greater in
          let lower : blocks_below l ps ≡ sorted g ∷ blocks_below low ps =
          blocks_skip (suc low) l ps both.below (λ k at_least below. sym (left.others k (λ e. omega (arith, e, below))) ∙ both.free k at_least below)
          ∙ block_some g (blocks_below low ps) some in
          elim (numbered low both.below) [
            | inl none ↦ absurd (omega (arith, some, ap length none))
            | inr has ↦
                let high : level (sorted g) ≡ low = level_is_number low g has in
                let one : joined rest (sorted g ∷ blocks_below low ps) ≡ sorted (rest ++ sorted g) ∷ blocks_below low ps =
                rw (le-ltb (level (sorted g)) (level rest) (omega (arith, high, less))) refl in
                let is : sorted whole ≡ sorted (rest ++ sorted g) =
                splits
                ∙ (sorted_same_behind (at_level l qs) (items_between low l qs) g (between_low low l qs both.below both.free ∙ ap sorted here)
                ∙ (sorted_same_before (at_level l qs) rest g (sym (sorted_itself (at_level l qs)) ∙ ap sorted left.here)
                ∙ sorted_same_behind rest g (sorted g) (sym (sorted_itself g)))) in
                ap (joined rest) lower ∙ (one ∙ ap (λ xs. xs ∷ blocks_below low ps) (sym is))
          ]
    ]

-- the numbers outside the range stay
kept : (l low to from count k : ℕ) (ps qs : List PieceState) → IsLeft l from count ps qs → IsSettling l low to qs → (k < low) ⊎ (l < k) → at_level k (regrouped low l to qs) ≡ at_level k ps
kept l low to from count k ps qs left s out =
    group_kept low l to k qs s.order s.within out
    ∙ left.others k (λ e. elim out [ inl less ↦ absurd (omega (arith, e, less, s.order, s.within)) | inr more ↦ absurd (omega (arith, e, more)) ])

-- the blocks of the levels up to that of the block
pub cut_here : (l low to from count : ℕ) (ps qs : List PieceState) → AreNumberedBelow l ps → IsLeft l from count ps qs → IsSettling l low to qs
    → blocks_below (suc l) (regrouped low l to qs) ≡ cut_items (blocks_below (suc l) ps) 0 from count
cut_here l low to from count ps qs numbered left s =
    let rs : List PieceState = regrouped low l to qs in
    let g : List Item = at_level l ps in
    let bs : List (List Item) = blocks_below l ps in
    let whole : List Item = items_between low (suc l) qs in
    let here : at_level to rs ≡ whole = group_here low l to qs s.order s.within in
    let upper : blocks_below (suc l) rs ≡ blocks_below (suc to) rs =
    blocks_skip (suc to) (suc l) rs (omega (arith, s.within)) (λ k at_least below. group_left low l to k qs (omega (arith, at_least, s.order)) (omega (arith, below)) (λ e. omega (arith, e, at_least))) in
    let lower : blocks_below to rs ≡ blocks_below low ps =
    blocks_skip low to rs s.order (λ k at_least below. group_left low l to k qs at_least (omega (arith, below, s.within)) (λ e. omega (arith, e, below)))
    ∙ blocks_agree low rs ps (λ k below. kept l low to from count k ps qs left s (inl below)) in
    let some : 0 < length (at_level to rs) = subst (λ xs. 0 < length xs) (sym here) (some_of_level to (length whole) s.has) in
    let not_all : length (sorted g) ≡ count → ⊥ = λ e. omega (arith, e, left.some_left, length_sorted g) in
    let goes : cut_items (sorted g ∷ bs) 0 from count ≡ joined (without_items (sorted g) from count) bs = rw (ne_eqb (length (sorted g)) count not_all) refl in
    upper
    ∙ (block_some (at_level to rs) (blocks_below to rs) some
    ∙ (ap (λ xs. sorted xs ∷ blocks_below to rs) here
    ∙ (ap (λ cs. sorted whole ∷ cs) lower
    ∙ (sym (joined_left l low to from count ps qs numbered left s)
    ∙ (sym goes
    ∙ ap (λ cs. cut_items cs 0 from count) (sym (block_some g bs (omega (arith, left.some_left)))))))))

pub cut_renumbers : (levels l low to from count : ℕ) (ps qs : List PieceState) → AreNumbered ps → IsLeft l from count ps qs → IsSettling l low to qs → l < levels
    → blocks_below levels (regrouped low l to qs) ≡ cut_items (blocks_below levels ps) (place_of levels l ps) from count
cut_renumbers zero l low to from count ps qs numbered left s less = absurd (omega (arith, less))
cut_renumbers (suc k) l low to from count ps qs numbered left s less = elim (cases_lt l k) [
  | inr last ↦
      let e : l ≡ k = omega (arith, last, less) in
      rw (le-ltb l k last)
      (subst (λ n. blocks_below (suc n) (regrouped low l to qs) ≡ cut_items (blocks_below (suc n) ps) 0 from count) e (cut_here l low to from count ps qs (λ k below. numbered k) left s))
  | inl more ↦
      let rs : List PieceState = regrouped low l to qs in
      let rest : blocks_below k rs ≡ cut_items (blocks_below k ps) (place_of k l ps) from count = cut_renumbers k l low to from count ps qs numbered left s more in
      let same : at_level k rs ≡ at_level k ps = kept l low to from count k ps qs left s (inr more) in
      rw (lt-ltb l k more)
      (ap (λ g. block_before g (blocks_below k rs)) same
      ∙ (ap (block_before (at_level k ps)) rest
      ∙ behind (at_level k ps) (blocks_below k ps) (place_of k l ps)))
] where
  behind : (g : List Item) (bs : List (List Item)) (at : ℕ) → block_before g (cut_items bs at from count) ≡ cut_items (block_before g bs) (one_more g at) from count
  behind [] bs at = refl
  behind (x ∷ xs) bs at = refl

-- a level then has no item, or as many as a block of it
pub cut_numbered_at : (l low to from count k : ℕ) (ps qs : List PieceState) → ((k < low) ⊎ (l < k) → (at_level k ps ≡ []) ⊎ HasLevel k (length (at_level k ps))) → IsLeft l from count ps qs → IsSettling l low to qs
    → (at_level k (regrouped low l to qs) ≡ []) ⊎ HasLevel k (length (at_level k (regrouped low l to qs)))
cut_numbered_at l low to from count k ps qs numbered left s = elim (cases_lt k low) [
  | inl less ↦ same (inl less)
  | inr at_least ↦ elim (cases_lt l k) [
    | inl more ↦ same (inr more)
    | inr within ↦ elim (cases_eq to k) [
      | inr differ ↦ inl (group_left low l to k qs at_least within differ)
      | inl e ↦ inr (subst (λ n. HasLevel n (length (at_level n (regrouped low l to qs)))) e (subst (λ xs. HasLevel to (length xs)) (sym (group_here low l to qs s.order s.within)) s.has))
    ]
  ]
] where
  same : (k < low) ⊎ (l < k) → (at_level k (regrouped low l to qs) ≡ []) ⊎ HasLevel k (length (at_level k (regrouped low l to qs)))
  same out = subst (λ g. (g ≡ []) ⊎ HasLevel k (length g)) (sym (kept l low to from count k ps qs left s out)) (numbered out)

pub cut_numbered : (l low to from count : ℕ) (ps qs : List PieceState) → AreNumbered ps → IsLeft l from count ps qs → IsSettling l low to qs → AreNumbered (regrouped low l to qs)
cut_numbered l low to from count ps qs numbered left s k = cut_numbered_at l low to from count k ps qs (λ out. numbered k) left s
