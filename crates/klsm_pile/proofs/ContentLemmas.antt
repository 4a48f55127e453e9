-- The content of the blocks is that of the pieces.
use Rattle.std.proofs.Common.{◌≡◌, ℕ, ◌<◌, true, List, [], ◌∷◌, ◌++◌, length, get_or, refl, sym, ap, ◌∙◌, subst, arith, lt-ltb, le-ltb, zero, suc, inl, inr}
use Rattle.std.proofs.lemmas.Bool.{cases_lt}
use Rattle.klsm_run.specs.declared.item.Item.{Item}
use Rattle.klsm_run.specs.Content.{sorted, IsAscending}
use Rattle.klsm_run.proofs.ContentLemmas.{sorted_same_behind, sorted_sorted}
use Rattle.klsm_lsm.specs.Lsm.{content, IsLsm}
use Rattle.klsm_lsm.proofs.ContentLemmas.{ascending_content}
use Rattle.klsm_pile.specs.Piece.{PieceState}
use Rattle.klsm_pile.specs.Pieces.{counted, at_level, every_item, is_between, items_between, block_before, blocks_below}
use Rattle.klsm_pile.specs.Settling.{one_more, place_of}
use Rattle.klsm_pile.proofs.RaisedLemmas.{between_empty, between_splits}
use Rattle.klsm_pile.proofs.BlockLemmas.{block_some}
use Rattle.klsm_pile.proofs.StoreLemmas.{AreBelowLevel}

content_block : (g : List Item) (bs : List (List Item)) → sorted (content (block_before g bs)) ≡ sorted (g ++ content bs)
content_block [] bs = refl
content_block (x ∷ xs) bs = sorted_sorted (x ∷ xs) (content bs)

content_between : (k : ℕ) (ps : List PieceState) → sorted (content (blocks_below k ps)) ≡ sorted (items_between 0 k ps)
content_between zero ps = sym (ap sorted (between_empty 0 ps))
content_between (suc k) ps =
    content_block (at_level k ps) (blocks_below k ps)
    ∙ (sorted_same_behind (at_level k ps) (content (blocks_below k ps)) (items_between 0 k ps) (content_between k ps)
    ∙ sym (between_splits 0 k ps (omega arith)))

all_between : (levels : ℕ) (ps : List PieceState) → AreBelowLevel levels ps → items_between 0 levels ps ≡ every_item ps
all_between levels [] below = refl
all_between levels (p ∷ ps) below =
    let inside : is_between 0 levels p.level ≡ true = rw (le-ltb p.level 0 (omega arith)) (lt-ltb p.level levels below.0) in
    ap (λ b. counted b p.items ++ items_between 0 levels ps) inside
    ∙ ap (λ xs. p.items ++ xs) (all_between levels ps below.1)

pub content_items : (levels : ℕ) (ps : List PieceState) → AreBelowLevel levels ps → sorted (content (blocks_below levels ps)) ≡ sorted (every_item ps)
content_items levels ps below = content_between levels ps ∙ ap sorted (all_between levels ps below)

-- the items are all different
pub items_distinct : (levels : ℕ) (ps : List PieceState) → AreBelowLevel levels ps → IsLsm (blocks_below levels ps) → IsAscending (sorted (every_item ps))
items_distinct levels ps below lawful = subst IsAscending (content_items levels ps below) (ascending_content (blocks_below levels ps) lawful)

-- which block is that of a level
pub place_block : (levels l : ℕ) (ps : List PieceState) → l < levels → 0 < length (at_level l ps) → get_or (blocks_below levels ps) (place_of levels l ps) [] ≡ sorted (at_level l ps)
place_block zero l ps less some = absurd (omega (arith, less))
place_block (suc k) l ps less some = elim (cases_lt l k) [
  | inr last ↦
      let e : l ≡ k = omega (arith, last, less) in
      rw (le-ltb l k last) (subst (λ n. get_or (block_before (at_level n ps) (blocks_below n ps)) 0 [] ≡ sorted (at_level l ps)) e (ap (λ bs. get_or bs 0 []) (block_some (at_level l ps) (blocks_below l ps) some)))
  | inl more ↦ rw (lt-ltb l k more) (behind (at_level k ps) (blocks_below k ps) (place_of k l ps) ∙ place_block k l ps more some)
] where
  behind : (g : List Item) (bs : List (List Item)) (at : ℕ) → get_or (block_before g bs) (one_more g at) [] ≡ get_or bs at []
  behind [] bs at = refl
  behind (x ∷ xs) bs at = refl
