-- An item that leaves the front.
use Rattle.std.proofs.Common.{◌≡◌, ℕ, ◌-◌, ◌<◌, ◌≤◌, ◌^◌, List, [], ◌∷◌, ◌++◌, length, get_or, set, take, drop, remove, refl, sym, ap, ◌∙◌, subst, arith, zero, suc, ◌⊎◌, inl, inr}
use Rattle.std.specs.Prelude.{slice_get, Some, None}
use Rattle.std.specs.List.{AllByRecursion}
use Rattle.std.proofs.lemmas.Bool.{cases_eq}
use Rattle.std.proofs.lemmas.List.{length-append, get_or-set_same, get_or-set_other}
use Rattle.klsm_run.specs.declared.item.Item.{Item}
use Rattle.klsm_run.specs.ItemOrder.{IsSmaller}
use Rattle.klsm_run.specs.Block.{HasLevel}
use Rattle.klsm_run.specs.Content.{sorted, IsAscending}
use Rattle.klsm_lsm.specs.Lsm.{IsLsm}
use Rattle.klsm_lsm.proofs.CutLemmas.{lawful_cut}
use Rattle.klsm_pile.specs.declared.fetched.Fetched.{Fetched}
use Rattle.klsm_pile.specs.Piece.{PieceState}
use Rattle.klsm_pile.specs.Pieces.{at_level, every_item, blocks_below}
use Rattle.klsm_pile.specs.Counting.{AreCounts, AreNumberedBelow}
use Rattle.klsm_pile.specs.Front.{singles, parts, front_items, IsFront}
use Rattle.klsm_pile.specs.Piles.{AreNumbered, IsConsistent, IsItemCut}
use Rattle.klsm_pile.specs.Renumbering.{IsRenumbered}
use Rattle.klsm_pile.specs.Settling.{place_of, IsCutOut, IsSettled}
use Rattle.klsm_pile.proofs.FrontLemmas.{front_cut_out, ascending_out, all_out, front_block}
use Rattle.klsm_pile.proofs.FetchLemmas.{items_in_front, items_of_parts}
use Rattle.klsm_pile.proofs.MergeLemmas.{items_length}
use Rattle.klsm_pile.proofs.StoreLemmas.{AreBelowLevel, fits_level}
use Rattle.klsm_pile.proofs.ContentLemmas.{place_block}
use Rattle.klsm_pile.proofs.OneLemmas.{left_count, cut_settled}

-- the counts once an item has left a level
pub counts_less : (l : ℕ) (from : ℕ) (counts : List ℕ) (ps qs : List PieceState) → l < length counts → AreCounts counts ps → IsCutOut l from 1 ps qs → AreCounts (set counts l (get_or counts l 0 - 1)) qs
counts_less l from counts ps qs fits counts_are out k less = elim (cases_eq l k) [
  | inl same ↦ subst (λ n. get_or (set counts l (get_or counts l 0 - 1)) n 0 ≡ length (at_level n qs)) same
      (get_or-set_same counts l (get_or counts l 0 - 1) 0 fits ∙ omega (arith, counts_are l fits, left_count l from 1 ps qs out))
  | inr differ ↦
      let in_counts : k < length counts = omega (arith, less, length_set counts l (get_or counts l 0 - 1)) in
      get_or-set_other counts l k (get_or counts l 0 - 1) 0 (λ e. differ (sym e)) ∙ (counts_are k in_counts ∙ ap length (sym (out.others k (λ e. differ (sym e)))))
] where
  length_set : (xs : List ℕ) (i v : ℕ) → length (set xs i v) ≡ length xs
  length_set [] i v = refl
  length_set (x ∷ xs) zero v = refl
  length_set (x ∷ xs) (suc i) v = ap suc (length_set xs i v)

-- the levels below are as they were
pub lower_numbered : (l from count : ℕ) (ps qs : List PieceState) → AreNumbered ps → IsCutOut l from count ps qs → AreNumberedBelow l qs
lower_numbered l from count ps qs numbered out k less = subst (λ g. (g ≡ []) ⊎ HasLevel k (length g)) (sym (out.others k (λ e. omega (arith, e, less)))) (numbered k)

pub left_fits : (l from count : ℕ) (ps qs : List PieceState) → AreNumbered ps → IsCutOut l from count ps qs → length (at_level l qs) ≤ 2 ^ l
left_fits l from count ps qs numbered out = elim (numbered l) [
  | inl none ↦ absurd (omega (arith, out.within, out.some, ap length none))
  | inr has ↦ omega (arith, left_count l from count ps qs out, fits_level l (length (at_level l ps)) has)
]

-- the front with an item in the middle
pub front_split : (fs : List Fetched) (rank : ℕ) (d : Fetched) → rank < length fs → fs ≡ take rank fs ++ get_or fs rank d ∷ drop (suc rank) fs
front_split [] rank d within = absurd (omega (arith, within))
front_split (f ∷ fs) zero d within = refl
front_split (f ∷ fs) (suc rank) d within = ap (λ gs. f ∷ gs) (front_split fs rank d (omega (arith, within)))

pub removed_is : (fs : List Fetched) (rank : ℕ) → rank < length fs → remove fs rank ≡ take rank fs ++ drop (suc rank) fs
removed_is [] rank within = absurd (omega (arith, within))
removed_is (f ∷ fs) zero within = refl
removed_is (f ∷ fs) (suc rank) within = ap (λ gs. f ∷ gs) (removed_is fs rank (omega (arith, within)))

-- the front stays in order, whatever the numbers
pub still_front : (levels : ℕ) (front after : List Fetched) (ps rest : List PieceState) → IsRenumbered levels front ps after rest → IsFront front ps → IsFront after rest
still_front levels front after ps rest same ordered = record {
  ascending = subst IsAscending (sym same.items) ordered.ascending;
  least = subst (λ xs. AllByRecursion (λ x. AllByRecursion (IsSmaller x) (every_item rest)) xs) (sym same.items)
      (subst (λ ys. AllByRecursion (λ x. AllByRecursion (IsSmaller x) ys) (front_items front)) (sym same.pieces) ordered.least);
}

item_there : (xs ys : List Item) (x : Item) → slice_get (xs ++ x ∷ ys) (length xs) ≡ Some x
item_there [] ys x = refl
item_there (z ∷ xs) ys x = item_there xs ys x

level_there : (levels : ℕ) (before after : List Fetched) (f : Fetched) (ps : List PieceState) → AreBelowLevel levels (parts (before ++ f ∷ after) ps) → f.level < levels
level_there levels [] after f ps below = below.0
level_there levels (b ∷ before) after f ps below = level_there levels before after f ps below.1

below_without : (levels : ℕ) (before after : List Fetched) (f : Fetched) (ps : List PieceState) → AreBelowLevel levels (parts (before ++ f ∷ after) ps) → AreBelowLevel levels (parts (before ++ after) ps)
below_without levels [] after f ps below = below.1
below_without levels (b ∷ before) after f ps below = (below.0, below_without levels before after f ps below.1)

front_without : (before after : List Fetched) (f : Fetched) (ps : List PieceState) → IsFront (before ++ f ∷ after) ps → IsFront (before ++ after) ps
front_without before after f ps ordered = record {
  ascending = subst IsAscending (sym (items_in_front before after)) (ascending_out (front_items before) (front_items after) f.item (subst IsAscending (items_in_front before (f ∷ after)) ordered.ascending));
  least = subst (AllByRecursion (λ x. AllByRecursion (IsSmaller x) (every_item ps))) (sym (items_in_front before after))
      (all_out (λ x. AllByRecursion (IsSmaller x) (every_item ps)) (front_items before) (front_items after) f.item
      (subst (AllByRecursion (λ x. AllByRecursion (IsSmaller x) (every_item ps))) (items_in_front before (f ∷ after)) ordered.least));
}

-- what a removal needs before the numbers are settled
pub record IsOut (levels : ℕ) (front after : List Fetched) (pieces : List PieceState) (f : Fetched) : Type 0 where
  pub level : f.level < levels
  pub from : ℕ
  pub out : IsCutOut f.level from 1 (parts front pieces) (parts after pieces)
  pub below : AreBelowLevel levels (parts after pieces)
  pub ordered : IsFront after pieces
  pub block : slice_get (get_or (blocks_below levels (parts front pieces)) (place_of levels f.level (parts front pieces)) []) from ≡ Some f.item

pub is_out : (levels rank : ℕ) (front after : List Fetched) (pieces : List PieceState) (counts : List ℕ) (f : Fetched) → IsConsistent levels front pieces counts → rank < length front → f ≡ get_or front rank f → after ≡ remove front rank → IsOut levels front after pieces f
is_out levels rank front after pieces counts f held within there left =
    let before : List Fetched = take rank front in
    let behind : List Fetched = drop (suc rank) front in
    let split : front ≡ before ++ f ∷ behind = front_split front rank f within ∙ ap (λ g. before ++ g ∷ behind) (sym there) in
    let after_is : after ≡ before ++ behind = left ∙ removed_is front rank within in
    let ordered : IsFront (before ++ f ∷ behind) pieces = subst (λ fs. IsFront fs pieces) split held.ordered in
    let below : AreBelowLevel levels (parts (before ++ f ∷ behind) pieces) = subst (λ fs. AreBelowLevel levels (parts fs pieces)) split held.below in
    let cut_out = front_cut_out before behind f pieces ordered in
    let level : f.level < levels = level_there levels before behind f pieces below in
    record {
      level = level;
      from = length (at_level f.level (singles before));
      out = subst (λ fs. IsCutOut f.level (length (at_level f.level (singles before))) 1 (parts fs pieces) (parts after pieces)) (sym split)
          (subst (λ fs. IsCutOut f.level (length (at_level f.level (singles before))) 1 (parts (before ++ f ∷ behind) pieces) (parts fs pieces)) (sym after_is) cut_out);
      below = subst (λ fs. AreBelowLevel levels (parts fs pieces)) (sym after_is) (below_without levels before behind f pieces below);
      ordered = subst (λ fs. IsFront fs pieces) (sym after_is) (front_without before behind f pieces ordered);
      block = subst (λ fs. slice_get (get_or (blocks_below levels (parts fs pieces)) (place_of levels f.level (parts fs pieces)) []) (length (at_level f.level (singles before))) ≡ Some f.item) (sym split)
          (ap (λ xs. slice_get xs (length (at_level f.level (singles before)))) (place_block levels f.level (parts (before ++ f ∷ behind) pieces) level (omega (arith, cut_out.within)) ∙ front_block before behind f pieces ordered)
          ∙ item_there (at_level f.level (singles before)) (at_level f.level (singles behind) ++ sorted (at_level f.level pieces)) f.item);
    }

-- the item has left its block, and the pile is lawful once the numbers are settled
pub removed_held : (levels : ℕ) (front after final : List Fetched) (pieces rest : List PieceState) (counts new : List ℕ) (f : Fetched) → IsConsistent levels front pieces counts → IsOut levels front after pieces f → IsSettled f.level (parts after pieces) (parts final rest)
    → IsRenumbered levels after pieces final rest → AreCounts new (parts final rest) → IsConsistent levels final rest new × IsItemCut f.item (blocks_below levels (parts front pieces)) (blocks_below levels (parts final rest))
removed_held levels front after final pieces rest counts new f held o settled same counts_are =
    let done = cut_settled levels f.level o.from 1 (parts front pieces) (parts after pieces) (parts final rest) held.numbered o.out settled o.level in
    let at : ℕ = place_of levels f.level (parts front pieces) in
    let within : o.from < length (get_or (blocks_below levels (parts front pieces)) at []) = got (get_or (blocks_below levels (parts front pieces)) at []) o.from o.block in (
      record {
        numbered = done.numbered;
        below = same.below o.below;
        lawful = subst IsLsm (sym done.blocks) (lawful_cut (blocks_below levels (parts front pieces)) at o.from held.lawful within);
        ordered = still_front levels after final pieces rest same o.ordered;
        counted = counts_are;
      },
      (at, o.from, o.block, done.blocks),
    )
  where
    got : (xs : List Item) (i : ℕ) → slice_get xs i ≡ Some f.item → i < length xs
    got [] i e = let bad : None ≡ Some f.item = e in cc
    got (x ∷ xs) zero e = omega arith
    got (x ∷ xs) (suc i) e = omega (arith, got xs i e)

-- fewer items are left
pub fewer_items : (front after : List Fetched) (pieces : List PieceState) → length after ≤ length front → length (every_item (parts after pieces)) ≤ length (every_item (parts front pieces))
fewer_items front after pieces fewer =
    omega (
      arith,
      fewer,
      ap length (items_of_parts front pieces),
      ap length (items_of_parts after pieces),
      length-append (front_items front) (every_item pieces),
      length-append (front_items after) (every_item pieces),
      items_length front,
      items_length after,
    )

pub item_at : (fs : List Fetched) (rank : ℕ) (f : Fetched) → rank < length fs → f ≡ get_or fs rank f → slice_get (front_items fs) rank ≡ Some f.item
item_at [] rank f within is = absurd (omega (arith, within))
item_at (g ∷ fs) zero f within is = ap (λ (h : Fetched). Some h.item) (sym is)
item_at (g ∷ fs) (suc rank) f within is = item_at fs rank f (omega (arith, within)) is

-- the same at the values of the code
pub removed_held_at : (levels n : ℕ) (front after final : List Fetched) (pieces rest : List PieceState) (counts new : List ℕ) (f : Fetched) → IsConsistent levels front pieces counts → IsOut levels front after pieces f → IsSettled f.level (parts after pieces) (parts final rest)
    → n ≡ levels → IsRenumbered n after pieces final rest → AreCounts new (parts final rest) → IsConsistent levels final rest new × IsItemCut f.item (blocks_below levels (parts front pieces)) (blocks_below levels (parts final rest))
removed_held_at levels n front after final pieces rest counts new f held o settled n_is same counts_are =
    removed_held levels front after final pieces rest counts new f held o settled (subst (λ k. IsRenumbered k after pieces final rest) n_is same) counts_are
