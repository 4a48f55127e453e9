-- Piles at rest.
use Rattle.std.proofs.Common.{◌≡◌, ◌⊎◌, ℕ, ◌+◌, ◌<◌, ◌≤◌, max, min, true, List, [], ◌∷◌, ◌++◌, length, get_or, take, drop, replicate, refl, sym, ap, ◌∙◌, subst, arith, zero, suc, inl, inr}
use Rattle.std.specs.Prelude.{◌==◌, slice_get, Some, None}
use Rattle.std.proofs.lemmas.List.{length-append, length-replicate, get_or-replicate, take-append-le, drop-append-le}
use Rattle.std.proofs.lemmas.Grind.{common_steps}
use Rattle.std.proofs.lemmas.Option.{slice_get_past}
use Rattle.std.specs.Ordering.{ord_min, nat_cmp}
use Rattle.klsm_run.proofs.SortedLemmas.{length_sorted}
use Rattle.klsm_run.specs.declared.item.Item.{Item}
use Rattle.klsm_run.specs.declared.limits.TheConstants.{MOST_K}
use Rattle.klsm_run.specs.Capacity.{heap_room}
use Rattle.klsm_run.specs.Content.{sorted, IsAscending}
use Rattle.klsm_lsm.specs.Lsm.{content, IsLsm}
use Rattle.klsm_lsm.specs.Limit.{IsLevelCount, limit_of}
use Rattle.klsm_lsm.specs.Adding.{cut}
use Rattle.klsm_pile.specs.declared.fetched.Fetched.{Fetched}
use Rattle.klsm_pile.specs.Piece.{PieceState}
use Rattle.klsm_pile.specs.Pieces.{every_item, blocks_below, HaveSame}
use Rattle.klsm_pile.specs.Front.{parts, front_items}
use Rattle.klsm_pile.specs.Piles.{PileState, IsConsistent, IsPile, IsItemCut, pile_of, batch_of, front_places}
use Rattle.klsm_pile.proofs.AddingLemmas.{length_same}
use Rattle.klsm_pile.proofs.ContentLemmas.{content_items, items_distinct}
use Rattle.klsm_pile.proofs.FetchLemmas.{items_of_parts}
use Rattle.klsm_pile.proofs.FrontLemmas.{sorted_front, blocks_same}
use Rattle.klsm_pile.proofs.MergeLemmas.{items_length}

pub parts_length : (front : List Fetched) (pieces : List PieceState) → length (every_item (parts front pieces)) ≡ length front + length (every_item pieces)
parts_length front pieces = ap length (items_of_parts front pieces) ∙ (length-append (front_items front) (every_item pieces) ∙ ap (λ n. n + length (every_item pieces)) (items_length front))

-- all items in their order: the front, and behind it those of the pieces
pub shown_content : (levels : ℕ) (front : List Fetched) (pieces : List PieceState) (counts : List ℕ) → IsConsistent levels front pieces counts
    → sorted (content (blocks_below levels (parts front pieces))) ≡ front_items front ++ sorted (every_item pieces)
shown_content levels front pieces counts held =
    content_items levels (parts front pieces) held.below
    ∙ (ap sorted (items_of_parts front pieces) ∙ sorted_front (front_items front) (every_item pieces) held.ordered.ascending held.ordered.least)

pub content_length : (levels : ℕ) (front : List Fetched) (pieces : List PieceState) (counts : List ℕ) → IsConsistent levels front pieces counts
    → length (content (blocks_below levels (parts front pieces))) ≡ length (every_item (parts front pieces))
content_length levels front pieces counts held = length_same (content (blocks_below levels (parts front pieces))) (every_item (parts front pieces)) (content_items levels (parts front pieces) held.below)

pub pile_length : (levels reach len places : ℕ) (front : List Fetched) (pieces : List PieceState) (counts : List ℕ) (s : PileState) → IsPile levels reach len front pieces counts places → pile_of levels reach front pieces ≡ s
    → len ≡ length (content s.blocks)
pile_length levels reach len places front pieces counts s pile is =
    subst (λ (t : PileState). len ≡ length (content t.blocks)) is (pile.total ∙ sym (content_length levels front pieces counts pile.held))

pub pile_lawful : (levels reach len places : ℕ) (front : List Fetched) (pieces : List PieceState) (counts : List ℕ) (s : PileState) → IsPile levels reach len front pieces counts places → pile_of levels reach front pieces ≡ s
    → IsLsm s.blocks
pile_lawful levels reach len places front pieces counts s pile is = subst (λ (t : PileState). IsLsm t.blocks) is pile.held.lawful

-- all items are different
pub pile_distinct : (levels reach len places : ℕ) (front : List Fetched) (pieces slice : List PieceState) (counts : List ℕ) → IsPile levels reach len front pieces counts places → slice ≡ pieces → IsAscending (sorted (every_item (parts front slice)))
pile_distinct levels reach len places front pieces slice counts pile slice_is =
    subst (λ ps. IsAscending (sorted (every_item (parts front ps)))) (sym slice_is) (items_distinct levels (parts front pieces) pile.held.below pile.held.lawful)

-- what can be looked at lies in the front
pub in_front : (levels reach len places rank : ℕ) (front : List Fetched) (pieces : List PieceState) (counts : List ℕ) (s : PileState) → IsPile levels reach len front pieces counts places → pile_of levels reach front pieces ≡ s
    → rank < s.reach → rank < length (content s.blocks) → rank < length front
in_front levels reach len places rank front pieces counts s pile is near there =
    let n = pile_length levels reach len places front pieces counts s pile is in
    let same : reach ≡ s.reach = ap (λ (t : PileState). t.reach) is in
    elim pile.enough [
      | inl enough ↦ omega (arith, enough, near, same)
      | inr none ↦ omega (arith, there, n, pile.total, parts_length front pieces, ap length none)
    ]

pub first_behind : (xs ys : List Item) (rank : ℕ) (x : Item) → slice_get xs rank ≡ Some x → slice_get (xs ++ ys) rank ≡ Some x
first_behind [] ys rank x is = let bad : None ≡ Some x = is in cc
first_behind (y ∷ xs) ys zero x is = is
first_behind (y ∷ xs) ys (suc rank) x is = first_behind xs ys rank x is

pub item_shown : (levels reach len places rank : ℕ) (front : List Fetched) (pieces : List PieceState) (counts : List ℕ) (s : PileState) (x : Item) → IsPile levels reach len front pieces counts places → pile_of levels reach front pieces ≡ s
    → slice_get (front_items front) rank ≡ Some x → slice_get (sorted (content s.blocks)) rank ≡ Some x
item_shown levels reach len places rank front pieces counts s x pile is found =
    subst (λ (t : PileState). slice_get (sorted (content t.blocks)) rank ≡ Some x) is
    (rw (shown_content levels front pieces counts pile.held) (first_behind (front_items front) (sorted (every_item pieces)) rank x found))

-- after the front has what it needs again
pub rested : (levels reach len places : ℕ) (mid after : List Fetched) (left rest : List PieceState) (counts slots : List ℕ) → IsConsistent levels mid left counts → IsConsistent levels after rest counts → HaveSame (parts after rest) (parts mid left)
    → (reach ≤ length after) ⊎ (every_item rest ≡ []) → length after ≤ max (reach + batch_of reach) (length mid) → length mid ≤ front_places reach → len ≡ length (every_item (parts mid left)) → len ≤ limit_of levels heap_room
    → slots ≡ counts → length counts ≡ levels → (len ≡ 0) ⊎ (front_places reach ≤ places) → (1 ≤ reach) × (reach ≤ MOST_K + 1) → IsLevelCount levels
    → IsPile levels reach len after rest slots places
rested levels reach len places mid after left rest counts slots was held same enough few mid_few total limit slots_are counted room reach_in_range levels_in_range = record {
  held = subst (IsConsistent levels after rest) (sym slots_are) held;
  level_counts = ap length slots_are ∙ counted;
  total = total ∙ sym (length_same (every_item (parts after rest)) (every_item (parts mid left)) (same (λ n. true)));
  limit = limit;
  enough = enough;
  few = omega (arith, few, mid_few);
  room = room;
  reach_in_range = reach_in_range;
  levels_in_range = levels_in_range;
}

pub same_blocks : (levels : ℕ) (after mid : List Fetched) (rest left : List PieceState) → HaveSame (parts after rest) (parts mid left) → blocks_below levels (parts after rest) ≡ blocks_below levels (parts mid left)
same_blocks levels after mid rest left same = blocks_same levels (parts after rest) (parts mid left) (λ l. same (λ n. n == l))

pub cut_of : (levels reach : ℕ) (x : Item) (front after : List Fetched) (pieces rest : List PieceState) (s : PileState) (bs : List (List Item)) → pile_of levels reach front pieces ≡ s → IsItemCut x (blocks_below levels (parts front pieces)) bs
    → blocks_below levels (parts after rest) ≡ bs → IsItemCut x s.blocks (blocks_below levels (parts after rest))
cut_of levels reach x front after pieces rest s bs is cut same = rw same (subst (λ (t : PileState). IsItemCut x t.blocks bs) is cut)

-- a pile with no item
blocks_none : (levels : ℕ) → blocks_below levels [] ≡ []
blocks_none zero = refl
blocks_none (suc l) = blocks_none l

held_none : (levels : ℕ) (counts : List ℕ) → counts ≡ replicate levels 0 → IsConsistent levels [] [] counts
held_none levels counts counts_are = record {
  numbered = λ l. inl refl;
  below = tt;
  lawful = subst IsLsm (sym (blocks_none levels)) tt;
  ordered = record { ascending = tt; least = tt };
  counted = λ l less. ap (λ ns. get_or ns l 0) counts_are ∙ get_or-replicate {A = ℕ} levels l 0 0 (omega (arith, less, ap length counts_are, length-replicate {A = ℕ} levels 0));
}

pub pile_new : (levels reach places : ℕ) (front : List Fetched) (pieces : List PieceState) (counts : List ℕ) → front ≡ [] → pieces ≡ [] → counts ≡ replicate levels 0 → IsLevelCount levels → 1 ≤ reach → reach ≤ MOST_K + 1
    → IsPile levels reach 0 front pieces counts places
pile_new levels reach places front pieces counts front_is pieces_are counts_are in_range some near =
    subst (λ fs. IsPile levels reach 0 fs pieces counts places) (sym front_is)
    (subst (λ ps. IsPile levels reach 0 [] ps counts places) (sym pieces_are) (record {
      held = held_none levels counts counts_are;
      level_counts = ap length counts_are ∙ length-replicate {A = ℕ} levels 0;
      total = refl;
      limit = omega arith;
      enough = inr refl;
      few = omega arith;
      room = inl refl;
      reach_in_range = (some, near);
      levels_in_range = in_range;
    }))

pub pile_new_shown : (levels reach : ℕ) (front : List Fetched) (pieces : List PieceState) → front ≡ [] → pieces ≡ [] → pile_of levels reach front pieces ≡ record { blocks = []; reach = reach }
pile_new_shown levels reach front pieces front_is pieces_are =
    ap (λ fs. pile_of levels reach fs pieces) front_is
    ∙ (ap (λ ps. pile_of levels reach [] ps) pieces_are ∙ ap (λ (bs : List (List Item)). record { blocks = bs; reach = reach }) (blocks_none levels))

-- the front has an item if there is any
pub none_shown : (levels reach len places : ℕ) (front : List Fetched) (pieces : List PieceState) (counts : List ℕ) (s : PileState) → IsPile levels reach len front pieces counts places → pile_of levels reach front pieces ≡ s
    → length front ≡ 0 → None ≡ slice_get (sorted (content s.blocks)) 0
none_shown levels reach len places front pieces counts s pile is none =
    let n = pile_length levels reach len places front pieces counts s pile is in
    sym (slice_get_past (sorted (content s.blocks)) 0 (elim pile.enough [
      | inl enough ↦ omega (arith, enough, none, pile.reach_in_range.0)
      | inr empty ↦ omega (arith, n, length_sorted (content s.blocks), pile.total, parts_length front pieces, ap length empty, none)
    ]))

-- the first items of the front leave
pub left_shown : (levels n : ℕ) (front after : List Fetched) (pieces rest : List PieceState) (counts slots : List ℕ) → IsConsistent levels front pieces counts → IsConsistent levels after rest slots → n ≤ length front
    → front_items after ≡ drop n (front_items front) → every_item rest ≡ every_item pieces
    → sorted (content (blocks_below levels (parts after rest))) ≡ drop n (sorted (content (blocks_below levels (parts front pieces))))
left_shown levels n front after pieces rest counts slots was held within left same =
    shown_content levels after rest slots held
    ∙ (ap (λ xs. xs ++ sorted (every_item rest)) left
    ∙ (ap (λ xs. drop n (front_items front) ++ sorted xs) same
    ∙ (sym (drop-append-le n (front_items front) (sorted (every_item pieces)) (omega (arith, within, items_length front)))
    ∙ ap (drop n) (sym (shown_content levels front pieces counts was)))))

pub taken_shown : (levels reach len places n : ℕ) (front : List Fetched) (pieces : List PieceState) (counts : List ℕ) (s : PileState) (taken : List Item) → IsPile levels reach len front pieces counts places → pile_of levels reach front pieces ≡ s
    → n ≤ length front → taken ≡ take n (front_items front) → taken ≡ take n (sorted (content s.blocks))
taken_shown levels reach len places n front pieces counts s taken pile is within taken_is =
    subst (λ (t : PileState). taken ≡ take n (sorted (content t.blocks))) is
    (taken_is
    ∙ (sym (take-append-le n (front_items front) (sorted (every_item pieces)) (omega (arith, within, items_length front)))
    ∙ ap (take n) (sym (shown_content levels front pieces counts pile.held))))

-- so many of the least can be looked at
pub all_in_front : (levels reach len places n : ℕ) (front : List Fetched) (pieces : List PieceState) (counts : List ℕ) (s : PileState) → IsPile levels reach len front pieces counts places → pile_of levels reach front pieces ≡ s
    → n ≤ s.reach → n ≤ length (content s.blocks) → n ≤ length front
all_in_front levels reach len places n front pieces counts s pile is near there =
    let size = pile_length levels reach len places front pieces counts s pile is in
    let same : reach ≡ s.reach = ap (λ (t : PileState). t.reach) is in
    elim pile.enough [
      | inl enough ↦ omega (arith, enough, near, same)
      | inr none ↦ omega (arith, there, size, pile.total, parts_length front pieces, ap length none)
    ]

-- the lesser of two numbers
pub lesser_is_min : (n m : ℕ) → ord_min nat_cmp n m ≡ min n m
lesser_is_min n m = grind (arith, common_steps)
