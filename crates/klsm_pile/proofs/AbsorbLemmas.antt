-- A pile whose pieces have become fewer, or lie elsewhere.
use Rattle.std.proofs.Common.{◌≡◌, ℕ, ◌<◌, ◌≤◌, true, List, length, sym, ap, ◌∙◌, subst, arith, inl, inr}
use Rattle.std.specs.Prelude.{Result, Ok, Err, OnErr}
use Rattle.std.specs.List.{AllByRecursion, Contains}
use Rattle.klsm_run.specs.declared.item.Item.{Item}
use Rattle.klsm_run.specs.ItemOrder.{IsSmaller}
use Rattle.klsm_run.specs.Content.{sorted, IsAscending, ShareNone}
use Rattle.klsm_run.proofs.AllLemmas.{all_append, all_front, all_back, all_weaker}
use Rattle.klsm_run.proofs.ContainsLemmas.{contains_sorted, contains_unsorted}
use Rattle.klsm_run.proofs.ContentLemmas.{sorted_same_behind}
use Rattle.klsm_lsm.specs.Lsm.{content}
use Rattle.klsm_lsm.proofs.ContentLemmas.{ascending_content}
use Rattle.klsm_pile.specs.declared.fetched.Fetched.{Fetched}
use Rattle.klsm_pile.specs.Piece.{PieceState}
use Rattle.klsm_pile.specs.Pieces.{items_where, every_item, blocks_below, HaveSame}
use Rattle.klsm_pile.specs.Front.{singles, parts, front_items}
use Rattle.klsm_pile.specs.Piles.{PileState, IsConsistent, IsPile, pile_of}
use Rattle.klsm_pile.proofs.AddingLemmas.{length_same}
use Rattle.klsm_pile.proofs.ContentLemmas.{content_items}
use Rattle.klsm_pile.proofs.FetchLemmas.{all_same, ascending_back}
use Rattle.klsm_pile.proofs.PileLemmas.{shown_content, parts_length, same_blocks}
use Rattle.klsm_pile.proofs.RaisedLemmas.{picked_append}
use Rattle.klsm_pile.proofs.RefillLemmas.{held_still}
use Rattle.klsm_pile.proofs.StoreLemmas.{AreBelowLevel, none_there}

-- no item lies in two pieces
pub pieces_distinct : (levels : ℕ) (front : List Fetched) (pieces : List PieceState) (counts : List ℕ) → IsConsistent levels front pieces counts → IsAscending (sorted (every_item pieces))
pieces_distinct levels front pieces counts held =
    ascending_back (front_items front) (sorted (every_item pieces))
    (subst IsAscending (shown_content levels front pieces counts held) (ascending_content (blocks_below levels (parts front pieces)) held.lawful))

pub parts_same : (front : List Fetched) (rest pieces : List PieceState) → HaveSame rest pieces → HaveSame (parts front rest) (parts front pieces)
parts_same front rest pieces same test =
    ap sorted (picked_append test (singles front) rest)
    ∙ (sorted_same_behind (items_where test (singles front)) (items_where test rest) (items_where test pieces) (same test)
    ∙ sym (ap sorted (picked_append test (singles front) pieces)))

pub same_through : (ps qs rs : List PieceState) → HaveSame ps qs → HaveSame qs rs → HaveSame ps rs
same_through ps qs rs one other test = one test ∙ other test

-- the pieces have become fewer
pub united_held : (levels : ℕ) (front : List Fetched) (pieces rest : List PieceState) (counts : List ℕ) → IsConsistent levels front pieces counts → HaveSame rest pieces → ((n : ℕ) → AreBelowLevel n pieces → AreBelowLevel n rest) → IsConsistent levels front rest counts
united_held levels front pieces rest counts held same below =
    held_still levels front front pieces rest counts (parts_same front rest pieces same)
    (all_append (λ (p : PieceState). p.level < levels) (singles front) rest (all_front (λ (p : PieceState). p.level < levels) (singles front) pieces held.below) (below levels (all_back (λ (p : PieceState). p.level < levels) (singles front) pieces held.below)))
    (record {
      ascending = held.ordered.ascending;
      least = all_weaker (λ x. AllByRecursion (IsSmaller x) (every_item pieces)) (λ x. AllByRecursion (IsSmaller x) (every_item rest)) (λ x. all_same (IsSmaller x) (every_item pieces) (every_item rest) (sym (same (λ n. true)))) (front_items front) held.ordered.least;
    })
    held

pub same_total : (ps qs : List PieceState) → HaveSame ps qs → length (every_item ps) ≡ length (every_item qs)
same_total ps qs same = length_same (every_item ps) (every_item qs) (same (λ n. true))

-- the same items share none with a run
pub same_apart : (ps qs : List PieceState) (run : List Item) → HaveSame qs ps → ShareNone (every_item ps) run → ShareNone (every_item qs) run
same_apart ps qs run same apart x mine theirs =
    apart x (contains_unsorted x (every_item ps) (subst (λ xs. Contains xs x) (same (λ n. true)) (contains_sorted x (every_item qs) mine))) theirs

pub pieces_few : (front : List Fetched) (pieces : List PieceState) → length (every_item pieces) ≤ length (every_item (parts front pieces))
pieces_few front pieces = omega (arith, parts_length front pieces)

-- a pile with more places, and fewer pieces
pub reserved_pile : (levels reach len places more : ℕ) (front after : List Fetched) (pieces rest : List PieceState) (counts : List ℕ) → IsPile levels reach len front pieces counts places → after ≡ front → HaveSame rest pieces
    → ((n : ℕ) → AreBelowLevel n pieces → AreBelowLevel n rest) → places ≤ more → IsPile levels reach len after rest counts more
reserved_pile levels reach len places more front after pieces rest counts pile front_is same below grown =
    let total = same_total (parts front rest) (parts front pieces) (parts_same front rest pieces same) in
    subst (λ fs. IsPile levels reach len fs rest counts more) (sym front_is) (record {
      held = united_held levels front pieces rest counts pile.held same below;
      level_counts = pile.level_counts;
      total = pile.total ∙ sym total;
      limit = pile.limit;
      enough = elim pile.enough [
        | inl enough ↦ inl enough
        | inr none ↦ inr (none_there (every_item rest) (same_total rest pieces same ∙ ap length none))
      ];
      few = pile.few;
      room = elim pile.room [
        | inl none ↦ inl none
        | inr room ↦ inr (omega (arith, room, grown))
      ];
      reach_in_range = pile.reach_in_range;
      levels_in_range = pile.levels_in_range;
    })

pub reserved_shown : (levels reach : ℕ) (front after : List Fetched) (pieces rest : List PieceState) (s : PileState) → after ≡ front → HaveSame rest pieces → pile_of levels reach front pieces ≡ s → pile_of levels reach after rest ≡ s
reserved_shown levels reach front after pieces rest s front_is same is =
    ap (λ fs. pile_of levels reach fs rest) front_is
    ∙ (ap (λ (bs : List (List Item)). record { blocks = bs; reach = reach }) (same_blocks levels front front rest pieces (parts_same front rest pieces same)) ∙ is)

-- at the names of a pile with its lists as they are
pub pile_again : (levels reach len places : ℕ) (front after : List Fetched) (pieces rest : List PieceState) (counts slots : List ℕ) → IsPile levels reach len front pieces counts places → after ≡ front → rest ≡ pieces → slots ≡ counts → IsPile levels reach len after rest slots places
pile_again levels reach len places front after pieces rest counts slots pile front_is pieces_are slots_are =
    subst (λ fs. IsPile levels reach len fs rest slots places) (sym front_is)
    (subst (λ ps. IsPile levels reach len front ps slots places) (sym pieces_are) (subst (λ ns. IsPile levels reach len front pieces ns places) (sym slots_are) pile))

pub shown_again : (levels reach : ℕ) (front after : List Fetched) (pieces rest : List PieceState) (s : PileState) → after ≡ front → rest ≡ pieces → pile_of levels reach front pieces ≡ s → pile_of levels reach after rest ≡ s
shown_again levels reach front after pieces rest s front_is pieces_are is = ap (λ fs. pile_of levels reach fs rest) front_is ∙ (ap (pile_of levels reach front) pieces_are ∙ is)

-- the items of a pile and a run, at its names
pub apart_inside : (levels reach len places : ℕ) (front : List Fetched) (pieces : List PieceState) (counts : List ℕ) (s : PileState) (run : List Item) → IsPile levels reach len front pieces counts places → pile_of levels reach front pieces ≡ s
    → ShareNone (content s.blocks) run → ShareNone (every_item (parts front pieces)) run
apart_inside levels reach len places front pieces counts s run pile is apart x mine theirs =
    apart x (subst (λ (t : PileState). Contains (content t.blocks) x) is
    (contains_unsorted x (content (blocks_below levels (parts front pieces)))
    (subst (λ xs. Contains xs x) (sym (content_items levels (parts front pieces) pile.held.below)) (contains_sorted x (every_item (parts front pieces)) mine)))) theirs

pub on_err : {T E P : Type 0} (r : Result T E) → P → OnErr r P
on_err (Ok x) p = tt
on_err (Err e) p = p
