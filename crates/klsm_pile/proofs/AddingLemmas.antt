-- Adding a run is renumbering.
use Rattle.std.proofs.Common.{◌≡◌, ℕ, ◌+◌, ◌<◌, ◌≤◌, List, [], ◌∷◌, ◌++◌, length, refl, sym, ap, ◌∙◌, subst, arith, eq-eqb, ne_eqb, le-ltb, zero, suc, ◌⊎◌, inl, inr}
use Rattle.std.proofs.lemmas.Bool.{cases_lt}
use Rattle.std.proofs.lemmas.List.{append-nil, append_assoc, length-append}
use Rattle.klsm_run.specs.declared.item.Item.{Item}
use Rattle.klsm_run.specs.Block.{HasLevel, IsBlock}
use Rattle.klsm_run.specs.Content.{sorted}
use Rattle.klsm_run.proofs.SortedLemmas.{length_sorted, sorted_ascending}
use Rattle.klsm_run.proofs.ContentLemmas.{sorted_swap, sorted_same_behind, sorted_sorted, sorted_itself}
use Rattle.klsm_lsm.specs.Level.{level}
use Rattle.klsm_lsm.specs.Adding.{joined, add}
use Rattle.klsm_lsm.proofs.JoinLemmas.{AllBelow}
use Rattle.klsm_pile.specs.Piece.{PieceState}
use Rattle.klsm_pile.specs.Pieces.{counted, at_level, items_between, block_before, blocks_below}
use Rattle.klsm_pile.specs.Renumbering.{raised, IsLanding, landed}
use Rattle.klsm_pile.specs.Piles.{AreNumbered}
use Rattle.klsm_pile.proofs.NumberLemmas.{level_found, some_of_level, both_level}
use Rattle.klsm_pile.proofs.RaisedLemmas.{at_level_append, level_kept, level_left, level_here, between_empty, between_splits}
use Rattle.klsm_pile.proofs.BlockLemmas.{block_some, level_is_number, levels_below, add_first, joined_apart, blocks_agree, blocks_skip}

pub sorted_same_before : (xs ys zs : List Item) → sorted xs ≡ sorted ys → sorted (xs ++ zs) ≡ sorted (ys ++ zs)
sorted_same_before xs ys zs same = sorted_swap xs zs ∙ (sorted_same_behind zs xs ys same ∙ sorted_swap zs ys)

pub length_same : (xs ys : List Item) → sorted xs ≡ sorted ys → length xs ≡ length ys
length_same xs ys same = sym (length_sorted xs) ∙ (ap length same ∙ length_sorted ys)

-- a run has become one with the blocks of the levels from `from` up to `to`
pub record IsCarriedTo (from to : ℕ) (ps : List PieceState) (run : List Item) : Type 0 where
  pub has : HasLevel to (length (items_between from to ps ++ run))
  pub adds : add (blocks_below to ps) run ≡ sorted (items_between from to ps ++ run) ∷ blocks_below from ps

carried_first : (from : ℕ) (ps : List PieceState) (run : List Item) → AreNumbered ps → IsBlock from run → IsCarriedTo from from ps run
carried_first from ps run numbered block =
    let below : AllBelow (level run) (blocks_below from ps) = subst (λ k. AllBelow k (blocks_below from ps)) (sym (level_found from (length run) block.1)) (levels_below from ps (λ l less. numbered l)) in
    let alone : sorted (items_between from from ps ++ run) ≡ run = ap (λ xs. sorted (xs ++ run)) (between_empty from ps) ∙ sorted_ascending run block.0 in
    record {
      has = subst (λ xs. HasLevel from (length (xs ++ run))) (sym (between_empty from ps)) block.1;
      adds = add_first (blocks_below from ps) run below ∙ ap (λ xs. xs ∷ blocks_below from ps) (sym alone);
    }

carried_more : (from t : ℕ) (ps : List PieceState) (run : List Item) → from ≤ t → IsBlock from run → HasLevel t (length (at_level t ps)) → IsCarriedTo from t ps run → IsCarriedTo from (suc t) ps run
carried_more from t ps run order block has c =
    let g : List Item = at_level t ps in
    let bs : List (List Item) = blocks_below t ps in
    let old : List Item = items_between from t ps in
    let m : List Item = old ++ run in
    let whole : sorted (g ++ m) ≡ sorted (items_between from (suc t) ps ++ run) =
    ap sorted (sym (append_assoc g old run)) ∙ sym (sorted_same_before (items_between from (suc t) ps) (g ++ old) run (between_splits from t ps order)) in
    let size : length g + length m ≡ length (items_between from (suc t) ps ++ run) = sym (length-append g m) ∙ length_same (g ++ m) (items_between from (suc t) ps ++ run) whole in
    let high : level (sorted g) ≡ t = level_is_number t g has in
    let low : level run ≡ from = level_found from (length run) block.1 in
    let same : level (sorted m) ≡ t = level_is_number t m c.has in
    let one : joined (sorted g) (sorted m ∷ blocks_below from ps) ≡ sorted (sorted g ++ sorted m) ∷ blocks_below from ps =
    rw (le-ltb (level (sorted m)) (level (sorted g)) (omega (arith, high, same))) refl in
    let goes : add (sorted g ∷ bs) run ≡ joined (sorted g) (add bs run) = rw (le-ltb (level (sorted g)) (level run) (omega (arith, high, low, order))) refl in
    record {
      has = subst (HasLevel (suc t)) size (both_level t (length g) (length m) has c.has);
      adds = ap (λ cs. add cs run) (block_some g bs (some_of_level t (length g) has))
          ∙ (goes
          ∙ (ap (joined (sorted g)) c.adds
          ∙ (one
          ∙ ap (λ xs. xs ∷ blocks_below from ps) (sorted_sorted g (sorted m) ∙ (sorted_same_behind g (sorted m) m (sorted_itself m) ∙ whole)))));
    }

pub carried : (from to : ℕ) (ps : List PieceState) (run : List Item) → AreNumbered ps → IsBlock from run → from ≤ to → ((l : ℕ) → from ≤ l → l < to → 0 < length (at_level l ps)) → IsCarriedTo from to ps run
carried from zero ps run numbered block order taken =
    let e : from ≡ 0 = omega (arith, order) in subst (λ t. IsCarriedTo from t ps run) e (carried_first from ps run numbered block)
carried from (suc t) ps run numbered block order taken = elim (cases_lt t from) [
  | inl less ↦ let e : from ≡ suc t = omega (arith, order, less) in subst (λ n. IsCarriedTo from n ps run) e (carried_first from ps run numbered block)
  | inr more ↦ elim (numbered t) [
    | inl none ↦ absurd (omega (arith, taken t more (omega arith), ap length none))
    | inr has ↦ carried_more from t ps run more block has (carried from t ps run numbered block more (λ l at_least less. taken l at_least (omega (arith, less))))
  ]
]

-- what the levels have once the run has landed
landed_other : (from to l : ℕ) (ps : List PieceState) (piece : PieceState) → (to ≡ l → ⊥) → at_level l (landed ps from to piece) ≡ at_level l (raised from to ps)
landed_other from to l ps piece differ =
    at_level_append l (raised from to ps) (record piece { level = to } ∷ [])
    ∙ (ap (λ b. at_level l (raised from to ps) ++ (counted b piece.items ++ [])) (ne_eqb to l differ)
    ∙ append-nil (at_level l (raised from to ps)))

landed_here : (from to : ℕ) (ps : List PieceState) (piece : PieceState) → from ≤ to → at_level to (landed ps from to piece) ≡ items_between from (suc to) ps ++ piece.items
landed_here from to ps piece order =
    at_level_append to (raised from to ps) (record piece { level = to } ∷ [])
    ∙ (ap (λ b. at_level to (raised from to ps) ++ (counted b piece.items ++ [])) (eq-eqb to to refl)
    ∙ (ap (λ xs. at_level to (raised from to ps) ++ xs) (append-nil piece.items)
    ∙ ap (λ xs. xs ++ piece.items) (level_here from to ps order)))

landed_kept : (from to l : ℕ) (ps : List PieceState) (piece : PieceState) → from ≤ to → (l < from) ⊎ (to < l) → at_level l (landed ps from to piece) ≡ at_level l ps
landed_kept from to l ps piece order out =
    landed_other from to l ps piece (λ is. elim out [ inl less ↦ absurd (omega (arith, is, less, order)) | inr more ↦ absurd (omega (arith, is, more)) ])
    ∙ level_kept from to l ps order out

landed_left : (from to l : ℕ) (ps : List PieceState) (piece : PieceState) → from ≤ l → l < to → at_level l (landed ps from to piece) ≡ []
landed_left from to l ps piece at_least less = landed_other from to l ps piece (λ is. omega (arith, is, less)) ∙ level_left from to l ps at_least less

-- at the level where it landed lies what it has become
landed_whole : (from to : ℕ) (ps : List PieceState) (piece : PieceState) → IsLanding ps from to → sorted (at_level to (landed ps from to piece)) ≡ sorted (items_between from to ps ++ piece.items)
landed_whole from to ps piece landing =
    ap sorted (landed_here from to ps piece landing.order)
    ∙ sorted_same_before (items_between from (suc to) ps) (items_between from to ps) piece.items
    (between_splits from to ps landing.order ∙ ap (λ xs. sorted (xs ++ items_between from to ps)) landing.free)

-- each level has no item, or as many as a block
pub landed_numbered : (from to : ℕ) (ps : List PieceState) (piece : PieceState) → AreNumbered ps → IsBlock from piece.items → IsLanding ps from to → AreNumbered (landed ps from to piece)
landed_numbered from to ps piece numbered block landing l = elim (cases_lt l from) [
  | inl less ↦ kept (inl less)
  | inr at_least ↦ elim (cases_lt to l) [
    | inl more ↦ kept (inr more)
    | inr within ↦ elim (cases_lt l to) [
      | inl less ↦ inl (landed_left from to l ps piece at_least less)
      | inr same ↦
          let e : to ≡ l = omega (arith, within, same) in
          inr (subst (λ k. HasLevel k (length (at_level k (landed ps from to piece)))) e
          (subst (HasLevel to) (sym (length_same (at_level to (landed ps from to piece)) (items_between from to ps ++ piece.items) (landed_whole from to ps piece landing)))
          (carried from to ps piece.items numbered block landing.order landing.taken).has))
    ]
  ]
] where
  kept : (l < from) ⊎ (to < l) → (at_level l (landed ps from to piece) ≡ []) ⊎ HasLevel l (length (at_level l (landed ps from to piece)))
  kept out = subst (λ g. (g ≡ []) ⊎ HasLevel l (length g)) (sym (landed_kept from to l ps piece landing.order out)) (numbered l)

-- the blocks up to the level where it landed
landed_top : (from to : ℕ) (ps : List PieceState) (piece : PieceState) → AreNumbered ps → IsBlock from piece.items → IsLanding ps from to
    → add (blocks_below (suc to) ps) piece.items ≡ blocks_below (suc to) (landed ps from to piece)
landed_top from to ps piece numbered block landing =
    let qs : List PieceState = landed ps from to piece in
    let c : IsCarriedTo from to ps piece.items = carried from to ps piece.items numbered block landing.order landing.taken in
    let lower : blocks_below to qs ≡ blocks_below from ps =
    blocks_skip from to qs landing.order (λ l at_least less. landed_left from to l ps piece at_least less)
    ∙ blocks_agree from qs ps (λ l less. landed_kept from to l ps piece landing.order (inl less)) in
    let some : 0 < length (at_level to qs) = subst (λ n. 0 < n) (sym (length_same (at_level to qs) (items_between from to ps ++ piece.items) (landed_whole from to ps piece landing))) (some_of_level to (length (items_between from to ps ++ piece.items)) c.has) in
    ap (λ g. add (block_before g (blocks_below to ps)) piece.items) landing.free
    ∙ (c.adds
    ∙ (ap (λ xs. xs ∷ blocks_below from ps) (sym (landed_whole from to ps piece landing))
    ∙ (ap (λ bs. sorted (at_level to qs) ∷ bs) (sym lower)
    ∙ sym (block_some (at_level to qs) (blocks_below to qs) some))))

-- the blocks of greater levels stay
pub add_renumbers : (levels from to : ℕ) (ps : List PieceState) (piece : PieceState) → AreNumbered ps → IsBlock from piece.items → IsLanding ps from to → to < levels
    → add (blocks_below levels ps) piece.items ≡ blocks_below levels (landed ps from to piece)
add_renumbers zero from to ps piece numbered block landing less = absurd (omega (arith, less))
add_renumbers (suc k) from to ps piece numbered block landing less = elim (cases_lt to k) [
  | inr last ↦ let e : suc to ≡ suc k = omega (arith, last, less) in subst (λ n. add (blocks_below n ps) piece.items ≡ blocks_below n (landed ps from to piece)) e (landed_top from to ps piece numbered block landing)
  | inl more ↦
      let qs : List PieceState = landed ps from to piece in
      let run : List Item = piece.items in
      let rest : add (blocks_below k ps) run ≡ blocks_below k qs = add_renumbers k from to ps piece numbered block landing more in
      let kept : at_level k qs ≡ at_level k ps = landed_kept from to k ps piece landing.order (inr more) in
      let behind : block_before (at_level k ps) (blocks_below k qs) ≡ block_before (at_level k qs) (blocks_below k qs) = ap (λ g. block_before g (blocks_below k qs)) (sym kept) in
      elim (numbered k) [
        | inl none ↦
            ap (λ g. add (block_before g (blocks_below k ps)) run) none
            ∙ (rest ∙ (ap (λ g. block_before g (blocks_below k qs)) (sym none) ∙ behind))
        | inr has ↦
            let g : List Item = at_level k ps in
            let some : 0 < length g = some_of_level k (length g) has in
            let high : level (sorted g) ≡ k = level_is_number k g has in
            let low : level run ≡ from = level_found from (length run) block.1 in
            let goes : add (sorted g ∷ blocks_below k ps) run ≡ joined (sorted g) (add (blocks_below k ps) run) = rw (le-ltb (level (sorted g)) (level run) (omega (arith, high, low, landing.order, more))) refl in
            let below : AllBelow (level (sorted g)) (blocks_below k qs) = subst (λ n. AllBelow n (blocks_below k qs)) (sym high) (levels_below k qs (λ l less. landed_numbered from to ps piece numbered block landing l)) in
            ap (λ cs. add cs run) (block_some g (blocks_below k ps) some)
            ∙ (goes
            ∙ (ap (joined (sorted g)) rest
            ∙ (joined_apart (sorted g) (blocks_below k qs) below
            ∙ (sym (block_some g (blocks_below k qs) some) ∙ behind))))
      ]
]
