-- The items of all blocks, one block after another.
use Rattle.std.proofs.Common.{◌≡◌, ℕ, ◌+◌, ◌-◌, ◌<◌, ◌≤◌, List, [], ◌∷◌, ◌++◌, length, get_or, sym, ap, ◌∙◌, arith, zero, suc}
use Rattle.std.specs.Prelude.{slice_get, Some}
use Rattle.std.proofs.lemmas.List.{length-append}
use Rattle.klsm_run.specs.declared.item.Item.{Item}
use Rattle.klsm_run.specs.Content.{sorted}
use Rattle.klsm_run.proofs.SortedLemmas.{length_sorted}
use Rattle.klsm_lsm.specs.Lsm.{content}
use Rattle.klsm_pile.specs.Piece.{PieceState}
use Rattle.klsm_pile.specs.Pieces.{at_level, blocks_below}
use Rattle.klsm_pile.specs.Counting.{AreCounts}
use Rattle.klsm_pile.proofs.PileLemmas.{first_behind}
use Rattle.klsm_pile.proofs.ReadingLemmas.{below_one_more}

-- the length of the greatest block below a level
block_length : (counts : List ℕ) (l : ℕ) (ps : List PieceState) → 0 < l → l ≤ length counts → AreCounts counts ps → length (sorted (at_level (l - 1) ps)) ≡ get_or counts (l - 1) 0
block_length counts l ps some within counts_are = length_sorted (at_level (l - 1) ps) ∙ sym (counts_are (l - 1) (omega (arith, some, within)))

-- an item of the greatest block
pub listed_here : (l index left : ℕ) (ps : List PieceState) (whole : List Item) (x : Item) → 0 < l → slice_get whole index ≡ slice_get (content (blocks_below l ps)) left → slice_get (sorted (at_level (l - 1) ps)) left ≡ Some x
    → slice_get whole index ≡ Some x
listed_here l index left ps whole x some same found =
    same
    ∙ (ap (λ xs. slice_get xs left) (below_one_more l (l - 1) ps (omega (arith, some)))
    ∙ first_behind (sorted (at_level (l - 1) ps)) (content (blocks_below (l - 1) ps)) left x found)

-- or of those behind it
behind_all : (xs ys : List Item) (m n : ℕ) → m ≡ length xs + n → slice_get (xs ++ ys) m ≡ slice_get ys n
behind_all [] ys m n is = ap (slice_get ys) (omega (arith, is))
behind_all (x ∷ xs) ys zero n is = absurd (omega (arith, is))
behind_all (x ∷ xs) ys (suc m) n is = behind_all xs ys m n (omega (arith, is))

pub listed_behind : (counts : List ℕ) (l index left : ℕ) (ps : List PieceState) (whole : List Item) → 0 < l → l ≤ length counts → AreCounts counts ps → get_or counts (l - 1) 0 ≤ left → slice_get whole index ≡ slice_get (content (blocks_below l ps)) left
    → slice_get whole index ≡ slice_get (content (blocks_below (l - 1) ps)) (left - get_or counts (l - 1) 0)
listed_behind counts l index left ps whole some within counts_are beyond same =
    let b : List Item = sorted (at_level (l - 1) ps) in
    let rest : List Item = content (blocks_below (l - 1) ps) in
    same
    ∙ (ap (λ xs. slice_get xs left) (below_one_more l (l - 1) ps (omega (arith, some)))
    ∙ behind_all b rest left (left - get_or counts (l - 1) 0) (omega (arith, beyond, block_length counts l ps some within counts_are)))

pub left_behind : (counts : List ℕ) (l left : ℕ) (ps : List PieceState) → 0 < l → l ≤ length counts → AreCounts counts ps → get_or counts (l - 1) 0 ≤ left → left < length (content (blocks_below l ps))
    → left - get_or counts (l - 1) 0 < length (content (blocks_below (l - 1) ps))
left_behind counts l left ps some within counts_are beyond there =
    omega (
      arith,
      beyond,
      there,
      block_length counts l ps some within counts_are,
      ap length (below_one_more l (l - 1) ps (omega (arith, some))),
      length-append (sorted (at_level (l - 1) ps)) (content (blocks_below (l - 1) ps)),
    )

-- there is no item below level 0
pub none_listed : (l left : ℕ) (ps : List PieceState) → l ≤ 0 → left < length (content (blocks_below l ps)) → ⊥
none_listed zero left ps none there = omega (arith, there)
none_listed (suc l) left ps none there = omega (arith, none)

-- an item of a level has a place in its block
pub ranked_within : (counts : List ℕ) (l left : ℕ) (ps : List PieceState) → 0 < l → l ≤ length counts → AreCounts counts ps → left < get_or counts (l - 1) 0 → left < length (at_level (l - 1) ps)
ranked_within counts l left ps some within counts_are there = omega (arith, there, counts_are (l - 1) (omega (arith, some, within)))
