-- Blocks as numbers: their levels, and pieces that have the same items at some levels.
use Rattle.std.proofs.Common.{◌≡◌, ℕ, ◌<◌, ◌≤◌, List, [], ◌∷◌, length, refl, sym, ap, ◌∙◌, subst, arith, lt-ltb, zero, suc, inl, inr}
use Rattle.std.proofs.lemmas.Bool.{cases_lt}
use Rattle.klsm_run.specs.declared.item.Item.{Item}
use Rattle.klsm_run.specs.Block.{HasLevel}
use Rattle.klsm_run.specs.Content.{sorted}
use Rattle.klsm_run.proofs.AllLemmas.{all_weaker}
use Rattle.klsm_run.proofs.SortedLemmas.{length_sorted}
use Rattle.klsm_lsm.specs.Level.{least_level, level}
use Rattle.klsm_lsm.specs.Adding.{joined, add}
use Rattle.klsm_lsm.proofs.JoinLemmas.{AllBelow}
use Rattle.klsm_pile.specs.Piece.{PieceState}
use Rattle.klsm_pile.specs.Pieces.{at_level, block_before, blocks_below}
use Rattle.klsm_pile.specs.Counting.{AreNumberedBelow}
use Rattle.klsm_pile.proofs.NumberLemmas.{level_found, some_of_level}

pub block_some : (g : List Item) (bs : List (List Item)) → 0 < length g → block_before g bs ≡ sorted g ∷ bs
block_some [] bs some = absurd (omega (arith, some))
block_some (x ∷ xs) bs some = refl

-- a block's level is its number
pub level_is_number : (l : ℕ) (g : List Item) → HasLevel l (length g) → level (sorted g) ≡ l
level_is_number l g has = ap least_level (length_sorted g) ∙ level_found l (length g) has

pub levels_below : (k : ℕ) (ps : List PieceState) → AreNumberedBelow k ps → AllBelow k (blocks_below k ps)
levels_below zero ps numbered = tt
levels_below (suc k) ps numbered =
    let rest : AllBelow (suc k) (blocks_below k ps) = all_weaker (λ c. level c < k) (λ c. level c < suc k) (λ c h. omega (arith, h)) (blocks_below k ps) (levels_below k ps (λ l less. numbered l (omega (arith, less)))) in
    elim (numbered k (omega arith)) [
      | inl none ↦ subst (λ g. AllBelow (suc k) (block_before g (blocks_below k ps))) (sym none) rest
      | inr has ↦ subst (AllBelow (suc k)) (sym (block_some (at_level k ps) (blocks_below k ps) (some_of_level k (length (at_level k ps)) has)))
          (omega (arith, level_is_number k (at_level k ps) has), rest)
    ]

-- a run of a greater level goes first
pub add_first : (bs : List (List Item)) (run : List Item) → AllBelow (level run) bs → add bs run ≡ run ∷ bs
add_first [] run below = refl
add_first (b ∷ bs) run below = rw (lt-ltb (level b) (level run) below.0) refl

pub joined_apart : (b : List Item) (bs : List (List Item)) → AllBelow (level b) bs → joined b bs ≡ b ∷ bs
joined_apart b [] below = refl
joined_apart b (c ∷ cs) below = rw (lt-ltb (level c) (level b) below.0) refl

pub blocks_agree : (k : ℕ) (ps qs : List PieceState) → ((l : ℕ) → l < k → at_level l ps ≡ at_level l qs) → blocks_below k ps ≡ blocks_below k qs
blocks_agree zero ps qs agree = refl
blocks_agree (suc k) ps qs agree =
    ap (λ g. block_before g (blocks_below k ps)) (agree k (omega arith))
    ∙ ap (block_before (at_level k qs)) (blocks_agree k ps qs (λ l less. agree l (omega (arith, less))))

-- levels without items have no blocks
pub blocks_skip : (from to : ℕ) (ps : List PieceState) → from ≤ to → ((l : ℕ) → from ≤ l → l < to → at_level l ps ≡ []) → blocks_below to ps ≡ blocks_below from ps
blocks_skip from zero ps order none = let e : 0 ≡ from = omega (arith, order) in ap (λ k. blocks_below k ps) e
blocks_skip from (suc t) ps order none = elim (cases_lt t from) [
  | inl less ↦ let e : suc t ≡ from = omega (arith, order, less) in ap (λ k. blocks_below k ps) e
  | inr more ↦ ap (λ g. block_before g (blocks_below t ps)) (none t more (omega arith)) ∙ blocks_skip from t ps more (λ l at_least less. none l at_least (omega (arith, less)))
]
