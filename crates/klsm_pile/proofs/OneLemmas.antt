-- Items leave a level, and the numbers are settled.
use Rattle.std.proofs.Common.{◌≡◌, ℕ, ◌+◌, ◌-◌, ◌<◌, List, [], ◌∷◌, length, refl, sym, ap, ◌∙◌, subst, arith, eq-eqb, lt-ltb, le-ltb, zero, suc, ◌⊎◌, inl, inr}
use Rattle.std.proofs.lemmas.Bool.{cases_lt}
use Rattle.klsm_run.specs.declared.item.Item.{Item}
use Rattle.klsm_run.specs.Block.{HasLevel}
use Rattle.klsm_run.specs.Content.{sorted}
use Rattle.klsm_run.proofs.SortedLemmas.{length_sorted}
use Rattle.klsm_lsm.specs.Adding.{cut_items}
use Rattle.klsm_lsm.proofs.CutLemmas.{length_without}
use Rattle.klsm_pile.specs.Piece.{PieceState}
use Rattle.klsm_pile.specs.Pieces.{at_level, block_before, blocks_below}
use Rattle.klsm_pile.specs.Counting.{AreNumberedBelow}
use Rattle.klsm_pile.specs.Settling.{one_more, place_of, IsLeft, IsCutOut, IsSettled}
use Rattle.klsm_pile.specs.Piles.{AreNumbered}
use Rattle.klsm_pile.proofs.BlockLemmas.{block_some, blocks_agree}
use Rattle.klsm_pile.proofs.CuttingLemmas.{cut_here, cut_renumbers, cut_numbered}

-- how many are left
pub left_count : (l from count : ℕ) (ps qs : List PieceState) → IsCutOut l from count ps qs → length (at_level l qs) + count ≡ length (at_level l ps)
left_count l from count ps qs out =
    let size : length (sorted (at_level l ps)) ≡ length (at_level l ps) = length_sorted (at_level l ps) in
    let rest : length (at_level l qs) ≡ length (sorted (at_level l ps)) - count =
    sym (length_sorted (at_level l qs)) ∙ (ap length out.here ∙ length_without (sorted (at_level l ps)) from count (omega (arith, out.within, size))) in
    omega (arith, rest, size, out.within)

-- a block of which all items leave goes
gone_here : (l from count : ℕ) (ps qs : List PieceState) → IsCutOut l from count ps qs → at_level l qs ≡ [] → blocks_below (suc l) qs ≡ cut_items (blocks_below (suc l) ps) 0 from count
gone_here l from count ps qs out gone =
    let all : length (sorted (at_level l ps)) ≡ count = omega (arith, length_sorted (at_level l ps), left_count l from count ps qs out, ap length gone) in
    let goes : cut_items (sorted (at_level l ps) ∷ blocks_below l ps) 0 from count ≡ blocks_below l ps = rw (eq-eqb (length (sorted (at_level l ps))) count all) refl in
    ap (λ g. block_before g (blocks_below l qs)) gone
    ∙ (blocks_agree l qs ps (λ k below. out.others k (λ e. omega (arith, e, below)))
    ∙ (sym goes
    ∙ ap (λ bs. cut_items bs 0 from count) (sym (block_some (at_level l ps) (blocks_below l ps) (omega (arith, out.within, out.some))))))

cut_gone : (levels l from count : ℕ) (ps qs : List PieceState) → IsCutOut l from count ps qs → at_level l qs ≡ [] → l < levels → blocks_below levels qs ≡ cut_items (blocks_below levels ps) (place_of levels l ps) from count
cut_gone zero l from count ps qs out gone less = absurd (omega (arith, less))
cut_gone (suc k) l from count ps qs out gone less = elim (cases_lt l k) [
  | inr last ↦
      let e : l ≡ k = omega (arith, last, less) in
      rw (le-ltb l k last) (subst (λ n. blocks_below (suc n) qs ≡ cut_items (blocks_below (suc n) ps) 0 from count) e (gone_here l from count ps qs out gone))
  | inl more ↦
      rw (lt-ltb l k more)
      (ap (λ g. block_before g (blocks_below k qs)) (out.others k (λ e. omega (arith, e, more)))
      ∙ (ap (block_before (at_level k ps)) (cut_gone k l from count ps qs out gone more)
      ∙ behind (at_level k ps) (blocks_below k ps) (place_of k l ps)))
] where
  behind : (g : List Item) (bs : List (List Item)) (at : ℕ) → block_before g (cut_items bs at from count) ≡ cut_items (block_before g bs) (one_more g at) from count
  behind [] bs at = refl
  behind (x ∷ xs) bs at = refl

gone_numbered : (l from count : ℕ) (ps qs : List PieceState) → AreNumbered ps → IsCutOut l from count ps qs → at_level l qs ≡ [] → AreNumbered qs
gone_numbered l from count ps qs numbered out gone k = elim (cases_lt k l) [
  | inl less ↦ kept (λ e. omega (arith, e, less))
  | inr at_least ↦ elim (cases_lt l k) [
    | inl more ↦ kept (λ e. omega (arith, e, more))
    | inr at_most ↦ let e : l ≡ k = omega (arith, at_least, at_most) in inl (subst (λ n. at_level n qs ≡ []) e gone)
  ]
] where
  kept : (k ≡ l → ⊥) → (at_level k qs ≡ []) ⊎ HasLevel k (length (at_level k qs))
  kept differ = subst (λ g. (g ≡ []) ⊎ HasLevel k (length g)) (sym (out.others k differ)) (numbered k)

-- what items that leave do to the blocks
pub record IsCutTo (levels l from count : ℕ) (ps rs : List PieceState) : Type 0 where
  pub blocks : blocks_below levels rs ≡ cut_items (blocks_below levels ps) (place_of levels l ps) from count
  pub numbered : AreNumbered rs

pub cut_settled : (levels l from count : ℕ) (ps qs rs : List PieceState) → AreNumbered ps → IsCutOut l from count ps qs → IsSettled l qs rs → l < levels → IsCutTo levels l from count ps rs
cut_settled levels l from count ps qs rs numbered out settled less = elim settled [
  | inl gone ↦ record {
    blocks = ap (blocks_below levels) gone.1 ∙ cut_gone levels l from count ps qs out gone.0 less;
    numbered = subst AreNumbered (sym gone.1) (gone_numbered l from count ps qs numbered out gone.0);
  }
  | inr r ↦
      let left : IsLeft l from count ps qs = record { some_left = omega (arith, r.some, left_count l from count ps qs out); here = out.here; others = out.others } in
      record {
        blocks = ap (blocks_below levels) r.regroups ∙ cut_renumbers levels l r.low r.to from count ps qs numbered left r.settling less;
        numbered = subst AreNumbered (sym r.regroups) (cut_numbered l r.low r.to from count ps qs numbered left r.settling);
      }
]

-- the same up to the level of which they leave, if the numbers below it are settled
pub cut_first : (l from count : ℕ) (ps qs rs : List PieceState) → AreNumberedBelow l ps → IsCutOut l from count ps qs → IsSettled l qs rs → blocks_below (suc l) rs ≡ cut_items (blocks_below (suc l) ps) 0 from count
cut_first l from count ps qs rs numbered out settled = elim settled [
  | inl gone ↦ ap (blocks_below (suc l)) gone.1 ∙ gone_here l from count ps qs out gone.0
  | inr r ↦
      let left : IsLeft l from count ps qs = record { some_left = omega (arith, r.some, left_count l from count ps qs out); here = out.here; others = out.others } in
      ap (blocks_below (suc l)) r.regroups ∙ cut_here l r.low r.to from count ps qs numbered left r.settling
]
