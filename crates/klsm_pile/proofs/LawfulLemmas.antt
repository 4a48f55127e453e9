-- Numbered pieces whose items are all different are lawful blocks.
use Rattle.std.proofs.Common.{◌≡◌, ◌≢◌, ℕ, ◌<◌, ◌≤◌, true, false, List, [], ◌∷◌, ◌++◌, length, refl, sym, ap, ◌∙◌, subst, arith, ne_eqb, zero, suc, inl, inr, if◌then◌else◌}
use Rattle.std.specs.List.{AllByRecursion}
use Rattle.klsm_run.specs.declared.item.Item.{Item}
use Rattle.klsm_run.specs.ItemOrder.{is_smaller, IsSmaller}
use Rattle.klsm_run.specs.Content.{placed, sorted, IsAscending}
use Rattle.klsm_run.proofs.AllLemmas.{all_weaker, all_back}
use Rattle.klsm_run.proofs.ApartLemmas.{AreApart}
use Rattle.klsm_run.proofs.ContentLemmas.{sorted_swap, sorted_itself, sharing_none_if_apart}
use Rattle.klsm_run.proofs.LeastLemmas.{all_unsorted}
use Rattle.klsm_run.proofs.OrderLemmas.{not_smaller_than_itself}
use Rattle.klsm_run.proofs.SortedLemmas.{IsNew, length_sorted}
use Rattle.klsm_lsm.specs.Lsm.{content, IsLsm}
use Rattle.klsm_lsm.proofs.JoinLemmas.{AllBelow, is_block}
use Rattle.klsm_pile.specs.Piece.{PieceState}
use Rattle.klsm_pile.specs.Pieces.{counted, at_level, every_item, block_before, blocks_below}
use Rattle.klsm_pile.specs.Counting.{AreNumberedBelow}
use Rattle.klsm_pile.proofs.NumberLemmas.{some_of_level}
use Rattle.klsm_pile.proofs.BlockLemmas.{block_some, level_is_number, levels_below}
use Rattle.klsm_pile.proofs.StoreLemmas.{AreBelowLevel}
use Rattle.klsm_pile.proofs.ContentLemmas.{content_items}

-- what is true of all items once one is placed is true of it and of the others
all_apart : (P : Item → Type 0) (x : Item) (ys : List Item) → AllByRecursion P (placed x ys) → P x × AllByRecursion P ys
all_apart P x [] h = (h.0, tt)
all_apart P x (y ∷ ys) h = (elim (is_smaller y x) as (λ b. AllByRecursion P (if b then y ∷ placed x ys else x ∷ y ∷ ys) → P x × AllByRecursion P (y ∷ ys)) [
  | true ↦ λ k. let rest = all_apart P x ys k.1 in (rest.0, (k.0, rest.1))
  | false ↦ λ k. (k.0, k.1)
]) h

-- an item that is placed in an ascending list is none of the others, which ascend
new_if_placed : (x : Item) (ys : List Item) → IsAscending (placed x ys) → IsNew x ys × IsAscending ys
new_if_placed x [] up = (tt, tt)
new_if_placed x (y ∷ ys) up = (elim (is_smaller y x) as (λ b. IsAscending (if b then y ∷ placed x ys else x ∷ y ∷ ys) → IsNew x (y ∷ ys) × IsAscending (y ∷ ys)) [
  | true ↦ λ k.
      let rest = new_if_placed x ys k.1 in
      let less = all_apart (IsSmaller y) x ys k.0 in
      ((λ same. not_smaller_than_itself x (subst (λ z. IsSmaller z x) same less.0), rest.0), (less.1, rest.1))
  | false ↦ λ k. (all_weaker (IsSmaller x) (λ z. z ≢ x) (λ z less same. not_smaller_than_itself x (subst (IsSmaller x) same less)) (y ∷ ys) k.0, k.1)
]) up

-- two lists whose items are all different
distinct_parts : (xs ys : List Item) → IsAscending (sorted (xs ++ ys)) → AreApart xs ys × IsAscending (sorted ys)
distinct_parts [] ys up = (tt, up)
distinct_parts (x ∷ xs) ys up =
    let first = new_if_placed x (sorted (xs ++ ys)) up in
    let rest = distinct_parts xs ys first.1 in
    ((all_back (λ y. y ≢ x) xs ys (all_unsorted (λ y. y ≢ x) (xs ++ ys) first.0), rest.0), rest.1)

lawful_blocks : (k : ℕ) (ps : List PieceState) → AreNumberedBelow k ps → IsAscending (sorted (content (blocks_below k ps))) → IsLsm (blocks_below k ps)
lawful_blocks zero ps numbered up = tt
lawful_blocks (suc k) ps numbered up =
    let g : List Item = at_level k ps in
    let bs : List (List Item) = blocks_below k ps in
    let lower : AreNumberedBelow k ps = λ l less. numbered l (omega (arith, less)) in
    elim (numbered k (omega arith)) [
      | inl none ↦ subst (λ xs. IsLsm (block_before xs bs)) (sym none) (lawful_blocks k ps lower (subst (λ xs. IsAscending (sorted (content (block_before xs bs)))) none up))
      | inr has ↦
          let some : 0 < length g = some_of_level k (length g) has in
          let is : block_before g bs ≡ sorted g ∷ bs = block_some g bs some in
          let both : IsAscending (sorted (sorted g ++ content bs)) = subst (λ cs. IsAscending (sorted (content cs))) is up in
          let parts = distinct_parts (sorted g) (content bs) both in
          let own : IsAscending (sorted g) =
          subst IsAscending (sorted_itself g) (distinct_parts (content bs) (sorted g) (subst IsAscending (sorted_swap (sorted g) (content bs)) both)).1 in
          subst IsLsm (sym is) (
            is_block (sorted g) own (omega (arith, some, length_sorted g)),
            subst (λ n. AllBelow n bs) (sym (level_is_number k g has)) (levels_below k ps lower),
            sharing_none_if_apart (sorted g) (content bs) parts.0,
            lawful_blocks k ps lower parts.1,
          )
    ]

pub lawful_numbered : (levels : ℕ) (ps : List PieceState) → AreBelowLevel levels ps → AreNumberedBelow levels ps → IsAscending (sorted (every_item ps)) → IsLsm (blocks_below levels ps)
lawful_numbered levels ps below numbered up = lawful_blocks levels ps numbered (subst IsAscending (sym (content_items levels ps below)) up)

-- no piece is of a larger level
pub free_beyond : (levels l : ℕ) (ps : List PieceState) → levels ≤ l → AreBelowLevel levels ps → at_level l ps ≡ []
free_beyond levels l [] beyond below = refl
free_beyond levels l (p ∷ ps) beyond below =
    ap (λ b. counted b p.items ++ at_level l ps) (ne_eqb p.level l (λ is. omega (arith, is, beyond, below.0))) ∙ free_beyond levels l ps beyond below.1
