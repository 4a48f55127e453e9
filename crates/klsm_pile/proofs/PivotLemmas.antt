-- The blocks by the counts of the levels, and how many items of a block are among the least ones.
use Rattle.std.proofs.Common.{◌≡◌, ◌≢◌, ℕ, ◌+◌, ◌-◌, ◌<◌, ◌≤◌, Bool, true, nat_lt, List, [], ◌∷◌, ◌++◌, length, min, get_or, take, drop, sym, ap, ◌∙◌, subst, arith, eq-eqb, ne_eqb, lt-ltb, zero, suc, ◌⊎◌, inl, inr}
use Rattle.std.specs.Prelude.{◌==◌}
use Rattle.std.specs.List.{AllByRecursion}
use Rattle.std.proofs.lemmas.Bool.{cases_lt}
use Rattle.std.proofs.lemmas.List.{length-append, take_all}
use Rattle.klsm_run.specs.declared.item.Item.{Item}
use Rattle.klsm_run.specs.Content.{sorted, skipped}
use Rattle.klsm_run.proofs.AllLemmas.{all_weaker}
use Rattle.klsm_run.proofs.LeastLemmas.{all_unsorted}
use Rattle.klsm_run.proofs.RankLemmas.{count_all, least_skip_few}
use Rattle.klsm_run.proofs.SortedLemmas.{all_sorted, length_sorted}
use Rattle.klsm_lsm.specs.Lsm.{content}
use Rattle.klsm_lsm.proofs.ContentLemmas.{ascending_content}
use Rattle.klsm_pile.specs.declared.fetched.Fetched.{Fetched}
use Rattle.klsm_pile.specs.Piece.{PieceState}
use Rattle.klsm_pile.specs.Pieces.{counted, at_level, every_item, block_before, blocks_below}
use Rattle.klsm_pile.specs.Counting.{AreCounts}
use Rattle.klsm_pile.specs.Front.{singles, parts}
use Rattle.klsm_pile.specs.Leaving.{count_in_least}
use Rattle.klsm_pile.specs.Piles.{PileState, IsConsistent, IsPile, pile_of}
use Rattle.klsm_pile.proofs.BlockLemmas.{block_some}
use Rattle.klsm_pile.proofs.ContentLemmas.{content_items}
use Rattle.klsm_pile.proofs.FrontLemmas.{all_picked}
use Rattle.klsm_pile.proofs.LeavingLemmas.{level_split, lost_here}
use Rattle.klsm_pile.proofs.MergeLemmas.{picked_more}
use Rattle.klsm_pile.proofs.PileLemmas.{content_length, parts_length}
use Rattle.klsm_pile.proofs.RaisedLemmas.{picked_append}
use Rattle.klsm_pile.proofs.StoreLemmas.{none_there, picked_few}

-- one more level is one more block, or none where it has no item
pub block_more : (counts : List ℕ) (level next : ℕ) (ps : List PieceState) → next ≡ suc level → level < length counts → get_or counts level 0 ≢ 0 → AreCounts counts ps → blocks_below next ps ≡ sorted (at_level level ps) ∷ blocks_below level ps
block_more counts level next ps is fits some counts_are =
    ap (λ n. blocks_below n ps) is ∙ block_some (at_level level ps) (blocks_below level ps) (positive (length (at_level level ps)) (λ none. some (counts_are level fits ∙ none)))
  where
    positive : (n : ℕ) → n ≢ 0 → 0 < n
    positive n differ = omega (arith, differ)

pub no_more : (counts : List ℕ) (level next : ℕ) (ps : List PieceState) → next ≡ suc level → level < length counts → get_or counts level 0 ≡ 0 → AreCounts counts ps → blocks_below next ps ≡ blocks_below level ps
no_more counts level next ps is fits none counts_are =
    ap (λ n. blocks_below n ps) is ∙ ap (λ g. block_before g (blocks_below level ps)) (none_there (at_level level ps) (sym (counts_are level fits) ∙ none))

-- the number of blocks
pub count_more : (counts : List ℕ) (level blocks : ℕ) (ps : List PieceState) → level < length counts → get_or counts level 0 ≢ 0 → AreCounts counts ps → blocks ≡ length (blocks_below level ps) → blocks + 1 ≡ length (blocks_below (level + 1) ps)
count_more counts level blocks ps fits some counts_are so_far = omega (arith, so_far, ap length (block_more counts level (level + 1) ps (omega arith) fits some counts_are))

pub count_same : (counts : List ℕ) (level blocks : ℕ) (ps : List PieceState) → level < length counts → get_or counts level 0 ≡ 0 → AreCounts counts ps → blocks ≡ length (blocks_below level ps) → blocks ≡ length (blocks_below (level + 1) ps)
count_same counts level blocks ps fits none counts_are so_far = so_far ∙ sym (ap length (no_more counts level (level + 1) ps (omega arith) fits none counts_are))

-- the block that is looked for is that of the next level below
pub block_found : (counts : List ℕ) (level left : ℕ) (ps : List PieceState) → 0 < level → level ≤ length counts → get_or counts (level - 1) 0 ≢ 0 → left ≡ 0 → AreCounts counts ps → get_or (blocks_below level ps) left [] ≡ sorted (at_level (level - 1) ps)
block_found counts level left ps more fits some none counts_are =
    ap (λ n. get_or (blocks_below level ps) n []) none
    ∙ ap (λ bs. get_or bs 0 []) (block_more counts (level - 1) level ps (omega (arith, more)) (omega (arith, more, fits)) some counts_are)

-- or one behind it
pub block_behind : (counts : List ℕ) (level left : ℕ) (ps : List PieceState) → 0 < level → level ≤ length counts → get_or counts (level - 1) 0 ≢ 0 → left ≢ 0 → AreCounts counts ps
    → get_or (blocks_below level ps) left [] ≡ get_or (blocks_below (level - 1) ps) (left - 1) []
block_behind counts level left ps more fits some differ counts_are =
    ap (λ bs. get_or bs left []) (block_more counts (level - 1) level ps (omega (arith, more)) (omega (arith, more, fits)) some counts_are)
    ∙ behind (sorted (at_level (level - 1) ps)) (blocks_below (level - 1) ps) left (left - 1) (omega (arith, differ))
  where
    behind : (b : List Item) (bs : List (List Item)) (n m : ℕ) → n ≡ suc m → get_or (b ∷ bs) n [] ≡ get_or bs m []
    behind b bs n m is = ap (λ k. get_or (b ∷ bs) k []) is

pub there_behind : (counts : List ℕ) (level left : ℕ) (ps : List PieceState) → 0 < level → level ≤ length counts → get_or counts (level - 1) 0 ≢ 0 → left ≢ 0 → AreCounts counts ps
    → left < length (blocks_below level ps) → left - 1 < length (blocks_below (level - 1) ps)
there_behind counts level left ps more fits some differ counts_are there =
    omega (arith, there, differ, ap length (block_more counts (level - 1) level ps (omega (arith, more)) (omega (arith, more, fits)) some counts_are))

-- or the same one, if the level has no item
pub block_below : (counts : List ℕ) (level left : ℕ) (ps : List PieceState) → 0 < level → level ≤ length counts → get_or counts (level - 1) 0 ≡ 0 → AreCounts counts ps
    → get_or (blocks_below level ps) left [] ≡ get_or (blocks_below (level - 1) ps) left []
block_below counts level left ps more fits none counts_are =
    ap (λ bs. get_or bs left []) (no_more counts (level - 1) level ps (omega (arith, more)) (omega (arith, more, fits)) none counts_are)

pub there_below : (counts : List ℕ) (level left : ℕ) (ps : List PieceState) → 0 < level → level ≤ length counts → get_or counts (level - 1) 0 ≡ 0 → AreCounts counts ps → left < length (blocks_below level ps) → left < length (blocks_below (level - 1) ps)
there_below counts level left ps more fits none counts_are there =
    omega (arith, there, ap length (no_more counts (level - 1) level ps (omega (arith, more)) (omega (arith, more, fits)) none counts_are))

-- there is no block below level 0
pub none_below : (level left : ℕ) (ps : List PieceState) → level ≤ 0 → left < length (blocks_below level ps) → ⊥
none_below zero left ps none there = omega (arith, there)
none_below (suc level) left ps none there = omega (arith, none)

-- one more item of the front is of a level
pub first_more : (level index count : ℕ) (front : List Fetched) (f : Fetched) → index < length front → f ≡ get_or front index f → f.level ≡ level → count ≡ length (at_level level (singles (take index front)))
    → count + 1 ≡ length (at_level level (singles (take (index + 1) front)))
first_more level index count front f within is same so_far =
    let own : counted (f.level == level) (f.item ∷ []) ≡ f.item ∷ [] = ap (λ b. counted b (f.item ∷ [])) (eq-eqb f.level level same) in
    let more : at_level level (singles (take (index + 1) front)) ≡ at_level level (singles (take index front)) ++ f.item ∷ [] =
    picked_more (λ n. n == level) front index f within
    ∙ (ap (λ (h : Fetched). at_level level (singles (take index front)) ++ counted (h.level == level) (h.item ∷ [])) (sym is)
    ∙ ap (λ xs. at_level level (singles (take index front)) ++ xs) own) in
    omega (arith, so_far, ap length more, length-append (at_level level (singles (take index front))) (f.item ∷ []))

-- or is not
pub first_other : (level index count : ℕ) (front : List Fetched) (f : Fetched) → index < length front → f ≡ get_or front index f → f.level ≢ level → count ≡ length (at_level level (singles (take index front)))
    → count ≡ length (at_level level (singles (take (index + 1) front)))
first_other level index count front f within is differ so_far =
    let none : counted (f.level == level) (f.item ∷ []) ≡ [] = ap (λ b. counted b (f.item ∷ [])) (ne_eqb f.level level differ) in
    let more : at_level level (singles (take (index + 1) front)) ≡ at_level level (singles (take index front)) ++ [] =
    picked_more (λ n. n == level) front index f within
    ∙ (ap (λ (h : Fetched). at_level level (singles (take index front)) ++ counted (h.level == level) (h.item ∷ [])) (sym is)
    ∙ ap (λ xs. at_level level (singles (take index front)) ++ xs) none) in
    omega (arith, so_far, ap length more, length-append (at_level level (singles (take index front))) [])

-- all items that are looked at are counted
pub first_all : (level index most count : ℕ) (front : List Fetched) → min most (length front) ≤ index → index ≤ most → count ≡ length (at_level level (singles (take index front))) → count ≡ length (at_level level (singles (take most front)))
first_all level index most count front all within so_far = elim (cases_lt index most) [
  | inr every ↦ let e : index ≡ most = omega (arith, every, within) in so_far ∙ ap (λ n. length (at_level level (singles (take n front)))) e
  | inl less ↦
      let whole : length front ≤ index = omega (arith, all, less) in
      so_far ∙ ap (λ fs. length (at_level level (singles fs))) (take_all index front whole ∙ sym (take_all most front (omega (arith, whole, less))))
]

-- the items of a level in the front and in the pieces
level_length : (l : ℕ) (front : List Fetched) (pieces : List PieceState) → length (at_level l (parts front pieces)) ≡ length (at_level l (singles front)) + length (at_level l pieces)
level_length l front pieces = ap length (picked_append (λ n. n == l) (singles front) pieces) ∙ length-append (at_level l (singles front)) (at_level l pieces)

-- with that many items in the front, a block's items among the least n are those of its level among the first n
counted_in_front : (levels n l : ℕ) (front : List Fetched) (pieces : List PieceState) (counts : List ℕ) → IsConsistent levels front pieces counts → n ≤ length front
    → count_in_least n (content (blocks_below levels (parts front pieces))) (sorted (at_level l (parts front pieces))) ≡ length (at_level l (singles (take n front)))
counted_in_front levels n l front pieces counts held enough =
    let lost = lost_here levels n l front pieces counts held enough in
    let rest : List PieceState = parts (drop n front) pieces in
    omega (
      arith,
      lost.count,
      ap length lost.block,
      length-append lost.gone (sorted (at_level l rest)),
      length_sorted (at_level l (parts front pieces)),
      length_sorted (at_level l rest),
      level_length l front pieces,
      level_length l (drop n front) pieces,
      ap length (level_split l n front),
      length-append (at_level l (singles (take n front))) (at_level l (singles (drop n front))),
    )

-- fewer items are all among the least n
counted_all : (levels n l : ℕ) (front : List Fetched) (pieces : List PieceState) (counts : List ℕ) → IsConsistent levels front pieces counts → length front ≤ n → every_item pieces ≡ []
    → count_in_least n (content (blocks_below levels (parts front pieces))) (sorted (at_level l (parts front pieces))) ≡ length (at_level l (singles (take n front)))
counted_all levels n l front pieces counts held few none =
    let ps : List PieceState = parts front pieces in
    let c : List Item = content (blocks_below levels ps) in
    let Few : Item → Type 0 = λ x. skipped c x < n in
    let test : Item → Bool = λ x. nat_lt (skipped c x) n in
    let size : length (sorted c) ≤ n = omega (arith, length_sorted c, content_length levels front pieces counts held, parts_length front pieces, ap length none, few) in
    let each : AllByRecursion Few (sorted c) = subst (AllByRecursion Few) (take_all n (sorted c) size) (least_skip_few n c (ascending_content (blocks_below levels ps) held.lawful)) in
    let of_parts : AllByRecursion Few (every_item ps) = all_unsorted Few (every_item ps) (subst (AllByRecursion Few) (content_items levels ps held.below) each) in
    let of_block : AllByRecursion Few (sorted (at_level l ps)) = all_sorted Few (at_level l ps) (all_picked Few (λ k. k == l) ps of_parts) in
    let all : count_in_least n c (sorted (at_level l ps)) ≡ length (sorted (at_level l ps)) =
    count_all test (sorted (at_level l ps)) (all_weaker Few (λ x. test x ≡ true) (λ x less. lt-ltb (skipped c x) n less) (sorted (at_level l ps)) of_block) in
    omega (
      arith,
      all,
      length_sorted (at_level l ps),
      level_length l front pieces,
      picked_few (λ k. k == l) pieces,
      ap length none,
      ap (λ fs. length (at_level l (singles fs))) (take_all n front few),
    )

-- all that can be looked at lie in the front, or all items
counted_in_reach : (levels n l : ℕ) (front : List Fetched) (pieces : List PieceState) (counts : List ℕ) → IsConsistent levels front pieces counts → (n ≤ length front) ⊎ (every_item pieces ≡ [])
    → count_in_least n (content (blocks_below levels (parts front pieces))) (sorted (at_level l (parts front pieces))) ≡ length (at_level l (singles (take n front)))
counted_in_reach levels n l front pieces counts held enough = elim enough [
  | inl many ↦ counted_in_front levels n l front pieces counts held many
  | inr none ↦ elim (cases_lt (length front) n) [
    | inl fewer ↦ counted_all levels n l front pieces counts held (omega (arith, fewer)) none
    | inr many ↦ counted_in_front levels n l front pieces counts held many
  ]
]

-- the counts of a pile, as the code has them
pub slots_counted : (levels reach len places : ℕ) (front : List Fetched) (pieces : List PieceState) (counts slots : List ℕ) → IsPile levels reach len front pieces counts places → slots ≡ counts → AreCounts slots (parts front pieces)
slots_counted levels reach len places front pieces counts slots pile slots_are = subst (λ ns. AreCounts ns (parts front pieces)) (sym slots_are) pile.held.counted

slots_blocks : (levels reach len places : ℕ) (front : List Fetched) (pieces : List PieceState) (counts slots : List ℕ) (s : PileState) → IsPile levels reach len front pieces counts places → slots ≡ counts → pile_of levels reach front pieces ≡ s
    → blocks_below (length slots) (parts front pieces) ≡ s.blocks
slots_blocks levels reach len places front pieces counts slots s pile slots_are is =
    ap (λ n. blocks_below n (parts front pieces)) (ap length slots_are ∙ pile.level_counts) ∙ ap (λ (t : PileState). t.blocks) is

-- how many blocks there are
pub blocks_counted : (levels reach len places count : ℕ) (front : List Fetched) (pieces : List PieceState) (counts slots : List ℕ) (s : PileState) → IsPile levels reach len front pieces counts places → slots ≡ counts → pile_of levels reach front pieces ≡ s
    → ((ps : List PieceState) → AreCounts slots ps → count ≡ length (blocks_below (length slots) ps)) → count ≡ length s.blocks
blocks_counted levels reach len places count front pieces counts slots s pile slots_are is so_many =
    so_many (parts front pieces) (slots_counted levels reach len places front pieces counts slots pile slots_are)
    ∙ ap length (slots_blocks levels reach len places front pieces counts slots s pile slots_are is)

pub block_there : (levels reach len places block : ℕ) (front : List Fetched) (pieces : List PieceState) (counts slots : List ℕ) (s : PileState) → IsPile levels reach len front pieces counts places → slots ≡ counts → pile_of levels reach front pieces ≡ s
    → block < length s.blocks → block < length (blocks_below (length slots) (parts front pieces))
block_there levels reach len places block front pieces counts slots s pile slots_are is within =
    omega (arith, within, ap length (slots_blocks levels reach len places front pieces counts slots s pile slots_are is))

-- how many items of a block are among the least that can be looked at
pub pivot_counted : (levels reach len places block level count : ℕ) (front : List Fetched) (pieces : List PieceState) (counts slots : List ℕ) (s : PileState) → IsPile levels reach len front pieces counts places → slots ≡ counts → pile_of levels reach front pieces ≡ s
    → ((ps : List PieceState) → AreCounts slots ps → get_or (blocks_below (length slots) ps) block [] ≡ sorted (at_level level ps)) → count ≡ length (at_level level (singles (take reach front)))
    → count ≡ count_in_least s.reach (content s.blocks) (get_or s.blocks block [])
pivot_counted levels reach len places block level count front pieces counts slots s pile slots_are is found so_many =
    let ps : List PieceState = parts front pieces in
    let here : sorted (at_level level ps) ≡ get_or s.blocks block [] =
    sym (found ps (slots_counted levels reach len places front pieces counts slots pile slots_are))
    ∙ ap (λ bs. get_or bs block []) (slots_blocks levels reach len places front pieces counts slots s pile slots_are is) in
    so_many
    ∙ (sym (counted_in_reach levels reach level front pieces counts pile.held pile.enough)
    ∙ (ap (count_in_least reach (content (blocks_below levels ps))) here ∙ ap (λ (t : PileState). count_in_least t.reach (content t.blocks) (get_or s.blocks block [])) is))
