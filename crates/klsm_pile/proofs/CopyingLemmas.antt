-- Blocks that are copied to an LSM, the greatest level first.
use Rattle.std.proofs.Common.{◌≡◌, ◌≢◌, ℕ, ◌+◌, ◌-◌, ◌<◌, ◌≤◌, List, [], ◌∷◌, ◌++◌, length, get_or, refl, sym, ap, ◌∙◌, subst, arith, zero, suc}
use Rattle.std.specs.Prelude.{◌==◌, ◌↔◌}
use Rattle.std.proofs.lemmas.List.{append_assoc, append-nil, length-append}
use Rattle.klsm_run.specs.declared.item.Item.{Item}
use Rattle.klsm_run.specs.Capacity.{heap_room}
use Rattle.klsm_run.specs.Content.{sorted, IsAscending, ShareNone}
use Rattle.klsm_run.proofs.ContentLemmas.{sorted_itself}
use Rattle.klsm_run.proofs.SortedLemmas.{length_sorted}
use Rattle.klsm_lsm.specs.Adding.{add}
use Rattle.klsm_lsm.specs.declared.errors.LsmError.{LsmError}
use Rattle.klsm_lsm.specs.declared.errors.LsmError.TheVariants.{Full, NoMemory}
use Rattle.klsm_lsm.specs.Level.{level}
use Rattle.klsm_lsm.specs.Lsm.{content, IsLsm}
use Rattle.klsm_lsm.proofs.CascadeLemmas.{IsLast, is_last, lsm_front, add_puts}
use Rattle.klsm_lsm.proofs.JoinLemmas.{some_in_block}
use Rattle.klsm_lsm.proofs.LeastLemmas.{content_append}
use Rattle.klsm_lsm.specs.Limit.{IsLevelCount, limit_of}
use Rattle.klsm_pile.specs.declared.fetched.Fetched.{Fetched}
use Rattle.klsm_pile.specs.Piece.{PieceState}
use Rattle.klsm_pile.specs.Pieces.{at_level, every_item, blocks_below}
use Rattle.klsm_pile.specs.Counting.{AreCounts}
use Rattle.klsm_pile.specs.Front.{parts}
use Rattle.klsm_pile.specs.Piles.{IsPile}
use Rattle.klsm_pile.proofs.DistinctLemmas.{level_distinct}
use Rattle.klsm_pile.proofs.PileLemmas.{content_length, pile_distinct}
use Rattle.klsm_pile.proofs.PivotLemmas.{block_more, no_more, slots_counted}
use Rattle.klsm_pile.proofs.StoreLemmas.{picked_few}

-- the items of a level as they are read

pub level_room : (l count : ℕ) (ps : List PieceState) → count ≡ length (at_level l ps) → length (every_item ps) ≤ heap_room → count ≤ heap_room
level_room l count ps count_is few = omega (arith, count_is, few, picked_few (λ n. n == l) ps)

pub level_read : (l : ℕ) (ps : List PieceState) (slice all before : List Item) → slice ≡ all → all ≡ before ++ sorted (at_level l ps) → before ≡ [] → slice ≡ sorted (at_level l ps)
level_read l ps slice all before slice_is all_is none = slice_is ∙ (all_is ∙ ap (λ xs. xs ++ sorted (at_level l ps)) none)

pub level_up : (l : ℕ) (ps : List PieceState) (slice : List Item) → IsAscending (sorted (every_item ps)) → slice ≡ sorted (at_level l ps) → IsAscending slice
level_up l ps slice up slice_is = subst IsAscending (sym slice_is) (level_distinct l ps up)

pub level_fits : (l count room : ℕ) (ps : List PieceState) (slice run none : List Item) → count ≡ length (at_level l ps) → slice ≡ sorted (at_level l ps) → run ≡ none → none ≡ [] → count ≤ room → length run + length slice ≤ room
level_fits l count room ps slice run none count_is slice_is run_is none_is holds =
    omega (arith, count_is, ap length slice_is, length_sorted (at_level l ps), ap length (run_is ∙ none_is), holds)

pub level_copied : (l : ℕ) (ps : List PieceState) (slice run none after : List Item) → slice ≡ sorted (at_level l ps) → run ≡ none → none ≡ [] → after ≡ sorted (run ++ slice) → after ≡ sorted (at_level l ps)
level_copied l ps slice run none after slice_is run_is none_is after_is =
    after_is
    ∙ (ap (λ xs. sorted (xs ++ slice)) (run_is ∙ none_is)
    ∙ (ap sorted slice_is ∙ sorted_itself (at_level l ps)))

-- a block behind those that are copied

copied_last : (copied rest whole : List (List Item)) (block : List Item) → IsLsm whole → copied ++ block ∷ rest ≡ whole → IsLast copied block
copied_last copied rest whole block lawful is =
    is_last copied block (lsm_front (copied ++ block ∷ []) rest (subst IsLsm (sym (append_assoc copied (block ∷ []) rest ∙ is)) lawful))

added_last : (copied : List (List Item)) (block : List Item) → IsLast copied block → add copied block ≡ copied ++ block ∷ []
added_last copied block last = ap (λ bs. add bs block) (sym (append-nil copied)) ∙ add_puts copied [] block last.before last.above tt

last_put : (copied after rest whole : List (List Item)) (block : List Item) → IsLast copied block → copied ++ block ∷ rest ≡ whole → after ≡ add copied block → after ++ rest ≡ whole
last_put copied after rest whole block last is added =
    ap (λ bs. bs ++ rest) (added ∙ added_last copied block last)
    ∙ (append_assoc copied (block ∷ []) rest ∙ is)

-- the block of the next level

next_block : (counts : List ℕ) (l : ℕ) (ps : List PieceState) (copied whole : List (List Item)) (block : List Item) → 0 < l → l ≤ length counts → AreCounts counts ps → get_or counts (l - 1) 0 ≢ 0 → copied ++ blocks_below l ps ≡ whole
    → block ≡ sorted (at_level (l - 1) ps) → copied ++ block ∷ blocks_below (l - 1) ps ≡ whole
next_block counts l ps copied whole block more within counts_are some so_far block_is =
    ap (λ b. copied ++ b ∷ blocks_below (l - 1) ps) block_is
    ∙ (ap (λ bs. copied ++ bs) (sym (block_more counts (l - 1) l ps (omega (arith, more)) (omega (arith, more, within)) some counts_are)) ∙ so_far)

pub next_needs : (counts : List ℕ) (l : ℕ) (ps : List PieceState) (copied whole : List (List Item)) (block : List Item) → IsLsm whole → 0 < l → l ≤ length counts → AreCounts counts ps → get_or counts (l - 1) 0 ≢ 0 → copied ++ blocks_below l ps ≡ whole
    → block ≡ sorted (at_level (l - 1) ps) → (0 < length block) × ShareNone (content copied) block
next_needs counts l ps copied whole block lawful more within counts_are some so_far block_is =
    let last : IsLast copied block = copied_last copied (blocks_below (l - 1) ps) whole block lawful (next_block counts l ps copied whole block more within counts_are some so_far block_is) in
    (some_in_block (level block) block last.block, last.apart)

pub next_put : (counts : List ℕ) (l : ℕ) (ps : List PieceState) (copied after whole : List (List Item)) (block : List Item) → IsLsm whole → 0 < l → l ≤ length counts → AreCounts counts ps → get_or counts (l - 1) 0 ≢ 0
    → copied ++ blocks_below l ps ≡ whole → block ≡ sorted (at_level (l - 1) ps) → after ≡ add copied block → after ++ blocks_below (l - 1) ps ≡ whole
next_put counts l ps copied after whole block lawful more within counts_are some so_far block_is added =
    let is : copied ++ block ∷ blocks_below (l - 1) ps ≡ whole = next_block counts l ps copied whole block more within counts_are some so_far block_is in
    last_put copied after (blocks_below (l - 1) ps) whole block (copied_last copied (blocks_below (l - 1) ps) whole block lawful is) is added

-- it is never refused: all blocks have room, and it becomes one with no other
pub next_refused : (counts : List ℕ) (l : ℕ) (ps : List PieceState) (copied whole : List (List Item)) (block : List Item) (limit : ℕ) (why : LsmError) → IsLsm whole → length (content whole) ≤ limit → 0 < l → l ≤ length counts → AreCounts counts ps
    → get_or counts (l - 1) 0 ≢ 0 → copied ++ blocks_below l ps ≡ whole → block ≡ sorted (at_level (l - 1) ps) → ((why ≡ Full) ↔ (limit < length (content copied) + length block)) → (why ≡ NoMemory → length (add copied block) ≤ length copied) → ⊥
next_refused counts l ps copied whole block limit Full lawful fits more within counts_are some so_far block_is full merging =
    let rest : List (List Item) = blocks_below (l - 1) ps in
    let is : copied ++ block ∷ rest ≡ whole = next_block counts l ps copied whole block more within counts_are some so_far block_is in
    omega (
      arith,
      full.0 refl,
      fits,
      ap length (ap content (sym is) ∙ content_append copied (block ∷ rest)),
      length-append (content copied) (block ++ content rest),
      length-append block (content rest),
    )
next_refused counts l ps copied whole block limit NoMemory lawful fits more within counts_are some so_far block_is full merging =
    let rest : List (List Item) = blocks_below (l - 1) ps in
    let is : copied ++ block ∷ rest ≡ whole = next_block counts l ps copied whole block more within counts_are some so_far block_is in
    let last : IsLast copied block = copied_last copied rest whole block lawful is in
    omega (arith, merging refl, ap length (added_last copied block last), length-append copied (block ∷ []))

-- or there is none
pub next_none : (counts : List ℕ) (l : ℕ) (ps : List PieceState) (copied whole : List (List Item)) → 0 < l → l ≤ length counts → AreCounts counts ps → get_or counts (l - 1) 0 ≡ 0 → copied ++ blocks_below l ps ≡ whole
    → copied ++ blocks_below (l - 1) ps ≡ whole
next_none counts l ps copied whole more within counts_are none so_far =
    ap (λ bs. copied ++ bs) (sym (no_more counts (l - 1) l ps (omega (arith, more)) (omega (arith, more, within)) none counts_are)) ∙ so_far

-- before any level, and after all
pub copied_first : (copied whole : List (List Item)) → copied ≡ [] → copied ++ whole ≡ whole
copied_first copied whole none = ap (λ bs. bs ++ whole) none

pub copied_all : (l : ℕ) (ps : List PieceState) (copied whole : List (List Item)) → l ≤ 0 → copied ++ blocks_below l ps ≡ whole → copied ≡ whole
copied_all zero ps copied whole none so_far = sym (append-nil copied) ∙ so_far
copied_all (suc l) ps copied whole none so_far = absurd (omega (arith, none))

-- what the copying of a pile needs
pub pile_copied : (levels reach len places : ℕ) (front : List Fetched) (pieces slice : List PieceState) (counts slots : List ℕ) → IsPile levels reach len front pieces counts places → slice ≡ pieces → slots ≡ counts
    → IsLevelCount levels × (length slots ≡ levels) × AreCounts slots (parts front slice) × IsAscending (sorted (every_item (parts front slice))) × (length (every_item (parts front slice)) ≤ heap_room) × IsLsm (blocks_below levels (parts front slice))
    × (length (content (blocks_below levels (parts front slice))) ≤ limit_of levels heap_room)
pile_copied levels reach len places front pieces slice counts slots pile slice_is slots_are = (
  pile.levels_in_range,
  ap length slots_are ∙ pile.level_counts,
  subst (λ ps. AreCounts slots (parts front ps)) (sym slice_is) (slots_counted levels reach len places front pieces counts slots pile slots_are),
  pile_distinct levels reach len places front pieces slice counts pile slice_is,
  subst (λ ps. length (every_item (parts front ps)) ≤ heap_room) (sym slice_is) (omega (arith, pile.total, pile.limit)),
  subst (λ ps. IsLsm (blocks_below levels (parts front ps))) (sym slice_is) pile.held.lawful,
  subst (λ ps. length (content (blocks_below levels (parts front ps))) ≤ limit_of levels heap_room) (sym slice_is)
      (subst (λ n. n ≤ limit_of levels heap_room) (pile.total ∙ sym (content_length levels front pieces counts pile.held)) pile.limit),
)
