-- Where the least item of an own part stands: after a search, with one more item, and after an insertion.
use Rattle.std.proofs.Common.{◌≡◌, ℕ, ◌+◌, ◌-◌, ◌<◌, ◌≤◌, true, false, List, [], ◌∷◌, ◌++◌, length, get_or, take, drop, min, Option, Some, None, refl, sym, ap, ◌∙◌, subst, arith, zero, suc, inl, inr}
use Rattle.std.specs.List.{AllByRecursion, slice_get}
use Rattle.std.specs.Option.{option_map}
use Rattle.std.proofs.lemmas.Bool.{cases_lt, lt-ltb, le-ltb}
use Rattle.std.proofs.lemmas.List.{append-nil, length-append, length-take-le, take-append-drop, get_or-take, get_or-drop, get_or_append_left, get_or-append_right}
use Rattle.std.proofs.lemmas.Option.{none-some, same_Some}
use Rattle.klsm_run.specs.declared.item.Item.{Item}
use Rattle.klsm_run.specs.ItemOrder.{is_smaller}
use Rattle.klsm_run.specs.Content.{sorted}
use Rattle.klsm_run.proofs.AllLemmas.{all_front, all_back}
use Rattle.klsm_run.proofs.ContentLemmas.{sorted_itself, sorted_same_behind}
use Rattle.klsm_run.proofs.IndexLemmas.{at_each, at_index}
use Rattle.klsm_run.proofs.LeastLemmas.{IsNoneBelow}
use Rattle.klsm_run.proofs.LesserLemmas.{lesser, lesser_first, lesser_second, first_append}
use Rattle.klsm_run.proofs.OrderLemmas.{Below, Same, Above, ranked}
use Rattle.klsm_run.proofs.RankLemmas.{empty_if_no_least, none_below_least}
use Rattle.klsm_run.proofs.SortedLemmas.{all_sorted, length_sorted}
use Rattle.klsm_lsm.specs.Level.{level}
use Rattle.klsm_lsm.specs.Lsm.{content, IsLsm}
use Rattle.klsm_lsm.specs.Adding.{joined, add}
use Rattle.klsm_lsm.specs.Places.{IsLeastBlock}
use Rattle.klsm_lsm.proofs.LeastLemmas.{content_append}
use Rattle.klsm_lsm.proofs.LevelLemmas.{level_least}
use Rattle.klsm_parts.specs.Parts.{HasLeastFirst}

abbrev Blocks : Type 0
Blocks = List (List Item)

-- the blocks with one item behind them
abbrev pub with_one : Blocks → Item → Blocks
with_one bs x = bs ++ (x ∷ []) ∷ []

-- the blocks, of which those from j on are one
abbrev joined_from : ℕ → Blocks → Blocks
joined_from j bs = take j bs ++ sorted (content (drop j bs)) ∷ []

-- the block that a search has found
pub searched : (bs : Blocks) (found : Option ℕ) → IsLeastBlock bs found → (at : ℕ) → found ≡ Some at → HasLeastFirst bs at
searched bs None none at is = absurd (none-some at is)
searched bs (Some b) there at is = subst (HasLeastFirst bs) (same_Some b at is) (record { inside = there.0; first = there.1 })

-- an insertion makes some of the last blocks one with the item
record IsJoined (j : ℕ) (bs : Blocks) (x : Item) : Type 0 where
  order : j ≤ length bs
  is : add bs (x ∷ []) ≡ joined_from j (with_one bs x)

joined_before : (j : ℕ) (b : List Item) (bs : Blocks) (x : Item) → IsLsm (b ∷ bs) → IsJoined j bs x → (i : ℕ) × (i ≤ length (b ∷ bs)) × (joined b (joined_from j (with_one bs x)) ≡ joined_from i (with_one (b ∷ bs) x))
joined_before zero b bs x lsm h =
    let rest = with_one bs x in
    let last = sorted (content rest) in
    elim (cases_lt (level last) (level b)) [
      | inl less ↦ (1, omega arith, rw (lt-ltb (level last) (level b) less) refl)
      | inr order ↦ (0, omega arith, rw (le-ltb (level last) (level b) order) (ap (λ (l : List Item). l ∷ []) (sorted_same_behind b last (content rest) (sorted_itself (content rest)))))
    ]
joined_before (suc j) b [] x lsm h = absurd (omega (arith, h.order))
joined_before (suc j) b (c ∷ cs) x lsm h = (suc (suc j), omega (arith, h.order), rw (lt-ltb (level c) (level b) lsm.1.0) refl)

inserted : (bs : Blocks) (x : Item) → IsLsm bs → (j : ℕ) × IsJoined j bs x
inserted [] x lsm = (0, record { order = omega arith; is = refl })
inserted (b ∷ bs) x lsm =
    let rest = inserted bs x lsm.3 in
    let low : level (x ∷ []) ≤ 0 = level_least 1 0 (omega arith) in
    let more = joined_before rest.0 b bs x lsm rest.1 in
    let here : add (b ∷ bs) (x ∷ []) ≡ joined b (add bs (x ∷ [])) = rw (le-ltb (level b) (level (x ∷ [])) (omega (arith, low))) refl in
    (more.0, record { order = more.1; is = here ∙ (ap (joined b) rest.1.is ∙ more.2) })

-- the content is the same
same_content : (j : ℕ) (bs : Blocks) → sorted (content (joined_from j bs)) ≡ sorted (content bs)
same_content j bs =
    let front = content (take j bs) in
    let back = content (drop j bs) in
    let last : sorted (sorted back ++ []) ≡ sorted back = ap sorted (append-nil (sorted back)) ∙ sorted_itself back in
    ap sorted (content_append (take j bs) (sorted back ∷ []))
    ∙ (sorted_same_behind front (sorted back ++ []) back last
    ∙ ap sorted (sym (content_append (take j bs) (drop j bs)) ∙ ap content (take-append-drop j bs)))

-- of two items of which neither is smaller
same_if_neither : (x y : Item) → is_smaller x y ≡ false → is_smaller y x ≡ false → x ≡ y
same_if_neither x y not_first not_second = elim (ranked x y) [
  | Below less greater ↦ let bad : true ≡ false = rw less at not_first in cc
  | Same same ↦ same
  | Above greater less ↦ let bad : true ≡ false = rw less at not_second in cc
]

-- what is true of all items is true of a block's first one
at_block : (P : Item → Type 0) (bs : Blocks) (at : ℕ) (y : Item) → AllByRecursion P (content bs) → slice_get (get_or bs at []) 0 ≡ Some y → P y
at_block P [] at y all first = absurd (none-some y first)
at_block P (b ∷ bs) zero y all first = at_each P b 0 y (all_front P b (content bs) all) first
at_block P (b ∷ bs) (suc at) y all first = at_block P bs at y (all_back P b (content bs) all) first

-- if the least item is in one of the last blocks, it is the least of these
least_behind : (j at : ℕ) (bs : Blocks) (y z : Item) → j ≤ at → slice_get (get_or bs at []) 0 ≡ Some y → IsNoneBelow y (content bs) → slice_get (sorted (content (drop j bs))) 0 ≡ Some z → z ≡ y
least_behind zero at bs y z order first low least =
    same_if_neither z y
    (at_each (λ w. is_smaller w y ≡ false) (sorted (content bs)) 0 z (all_sorted (λ w. is_smaller w y ≡ false) (content bs) low) least)
    (at_block (λ w. is_smaller w z ≡ false) bs at y (none_below_least z (content bs) least) first)
least_behind (suc j) zero bs y z order first low least = absurd (omega (arith, order))
least_behind (suc j) (suc at) [] y z order first low least = absurd (none-some y first)
least_behind (suc j) (suc at) (b ∷ bs) y z order first low least = least_behind j at bs y z (omega (arith, order)) first (all_back (λ w. is_smaller w y ≡ false) b (content bs) low) least

-- which is there, as the blocks have an item
least_there : (j at : ℕ) (bs : Blocks) (y : Item) → j ≤ at → slice_get (get_or bs at []) 0 ≡ Some y → IsNoneBelow y (content bs) → (o : Option Item) → slice_get (sorted (content (drop j bs))) 0 ≡ o → o ≡ Some y
least_there j at bs y order first low None none =
    let empty = empty_if_no_least (content (drop j bs)) none in
    absurd (at_block (λ w. ⊥) (drop j bs) (at - j) y (subst (AllByRecursion (λ w. ⊥)) (sym empty) tt) (here ∙ first))
  where
    here : slice_get (get_or (drop j bs) (at - j) []) 0 ≡ slice_get (get_or bs at []) 0
    here =
        let place : j + (at - j) ≡ at = omega (arith, order) in
        ap (λ (b : List Item). slice_get b 0) (get_or-drop j bs (at - j) [] ∙ ap (λ (n : ℕ). get_or bs n []) place)
least_there j at bs y order first low (Some z) least = ap Some (least_behind j at bs y z order first low least)

-- the place of the least item after some of the last blocks became one
joined_place : (j at : ℕ) (bs : Blocks) (y : Item) → j ≤ length bs → slice_get (sorted (content bs)) 0 ≡ Some y → HasLeastFirst bs at → HasLeastFirst (joined_from j bs) (min at j)
joined_place j at bs y order least found = elim (cases_lt at j) [
  | inl before ↦
      let same : min at j ≡ at = omega (arith, before) in
      let inside : at < length (take j bs) = omega (arith, before, count) in
      let block : get_or (joined_from j bs) at [] ≡ get_or bs at [] = get_or_append_left (take j bs) (sorted (content (drop j bs)) ∷ []) [] at inside ∙ get_or-take j bs at [] before in
      rw same (record { inside = omega (arith, before, whole); first = ap (λ (b : List Item). slice_get b 0) block ∙ (found.first ∙ content_least) })
  | inr behind ↦
      let same : min at j ≡ j = omega (arith, behind) in
      let none : j - j ≡ 0 = omega arith in
      let block : get_or (joined_from j bs) j [] ≡ sorted (content (drop j bs)) =
      get_or-append_right (take j bs) (sorted (content (drop j bs)) ∷ []) j j [] count (omega arith) ∙ ap (λ (n : ℕ). get_or (sorted (content (drop j bs)) ∷ []) n []) none in
      let last : slice_get (sorted (content (drop j bs))) 0 ≡ Some y = least_there j at bs y behind (found.first ∙ least) (none_below_least y (content bs) least) (slice_get (sorted (content (drop j bs))) 0) refl in
      rw same (record { inside = omega (arith, whole); first = ap (λ (b : List Item). slice_get b 0) block ∙ (last ∙ (sym least ∙ content_least)) })
]
  where
    count : length (take j bs) ≡ j
    count = length-take-le j bs order

    whole : length (joined_from j bs) ≡ j + 1
    whole = omega (arith, length-append (take j bs) (sorted (content (drop j bs)) ∷ []), count)

    content_least : slice_get (sorted (content bs)) 0 ≡ slice_get (sorted (content (joined_from j bs))) 0
    content_least = ap (λ (c : List Item). slice_get c 0) (sym (same_content j bs))

-- after an insertion: the place of the least item with the new one as a block of its own, or the last block if that is before it
pub place_after : (bs : Blocks) (x : Item) (at : ℕ) → IsLsm bs → HasLeastFirst (with_one bs x) at → HasLeastFirst (add bs (x ∷ [])) (min at (length (add bs (x ∷ [])) - 1))
place_after bs x at lsm found =
    let j = (inserted bs x lsm).0 in
    let made = (inserted bs x lsm).1 in
    let all = with_one bs x in
    let size : length all ≡ length bs + 1 = length-append bs ((x ∷ []) ∷ []) in
    let items : length (content all) ≡ length (content bs) + 1 = ap length (content_append bs ((x ∷ []) ∷ [])) ∙ length-append (content bs) (x ∷ []) in
    let least = at_index (sorted (content all)) 0 (omega (arith, length_sorted (content all), items)) in
    let count : length (take j all) ≡ j = length-take-le j all (omega (arith, made.order, size)) in
    let last : length (joined_from j all) - 1 ≡ j = omega (arith, length-append (take j all) (sorted (content (drop j all)) ∷ []), count) in
    rw (made.is, last) (joined_place j at all least.0 (omega (arith, made.order, size)) least.1 found)

-- there is a block then
pub some_after : (bs : Blocks) (x : Item) → IsLsm bs → 0 < length (add bs (x ∷ []))
some_after bs x lsm =
    let j = (inserted bs x lsm).0 in
    let made = (inserted bs x lsm).1 in
    rw made.is (omega (arith, length-append (take j (with_one bs x)) (sorted (content (drop j (with_one bs x))) ∷ [])))

-- the item alone
pub place_of_only : (bs : Blocks) (x : Item) → length bs ≡ 0 → HasLeastFirst (with_one bs x) 0
place_of_only [] x none = record { inside = omega arith; first = refl }
place_of_only (b ∷ bs) x none = absurd (omega (arith, none))

least_with : (bs : Blocks) (x y : Item) → slice_get (sorted (content bs)) 0 ≡ Some y → slice_get (sorted (content (with_one bs x))) 0 ≡ lesser (Some y) (Some x)
least_with bs x y least =
    ap (λ (c : List Item). slice_get (sorted c) 0) (content_append bs ((x ∷ []) ∷ []))
    ∙ (first_append (content bs) (x ∷ []) ∙ ap (λ (o : Option Item). lesser o (Some x)) least)

-- it is before the least of the others
pub place_of_new : (bs : Blocks) (x y : Item) (at : ℕ) → HasLeastFirst bs at → slice_get (get_or bs at []) 0 ≡ Some y → is_smaller x y ≡ true → HasLeastFirst (with_one bs x) (length bs)
place_of_new bs x y at found first smaller =
    let none : length bs - length bs ≡ 0 = omega arith in
    let block : get_or (with_one bs x) (length bs) [] ≡ x ∷ [] =
    get_or-append_right bs ((x ∷ []) ∷ []) (length bs) (length bs) [] refl (omega arith) ∙ ap (λ (n : ℕ). get_or ((x ∷ []) ∷ []) n []) none in
    record {
      inside = omega (arith, length-append bs ((x ∷ []) ∷ []));
      first = ap (λ (b : List Item). slice_get b 0) block ∙ sym (least_with bs x y (sym found.first ∙ first) ∙ ap Some (lesser_second y x smaller));
    }

-- it is not
pub place_of_old : (bs : Blocks) (x y : Item) (at : ℕ) → HasLeastFirst bs at → slice_get (get_or bs at []) 0 ≡ Some y → is_smaller x y ≡ false → HasLeastFirst (with_one bs x) at
place_of_old bs x y at found first not_smaller =
    record {
      inside = omega (arith, length-append bs ((x ∷ []) ∷ []), found.inside);
      first = ap (λ (b : List Item). slice_get b 0) (get_or_append_left bs ((x ∷ []) ∷ []) [] at found.inside)
          ∙ (first ∙ sym (least_with bs x y (sym found.first ∙ first) ∙ ap Some (lesser_first y x not_smaller)));
    }

-- what was found before an insertion, and what is found after it
pub found_after : (bs after : Blocks) (x : Item) (place found : Option ℕ) (last : ℕ) → IsLsm bs → after ≡ add bs (x ∷ []) → last ≡ length after - 1 → found ≡ option_map (λ block. min block last) place
    → ((at : ℕ) → place ≡ Some at → HasLeastFirst (with_one bs x) at) → (at : ℕ) → found ≡ Some at → HasLeastFirst after at
found_after bs after x None found last lsm is last_is found_is known at there = absurd (none-some at (sym found_is ∙ there))
found_after bs after x (Some b) found last lsm is last_is found_is known at there =
    let here : min b (length (add bs (x ∷ [])) - 1) ≡ at = ap (λ (n : ℕ). min b n) (sym (last_is ∙ ap (λ (cs : Blocks). length cs - 1) is)) ∙ same_Some (min b last) at (sym found_is ∙ there) in
    rw is (subst (HasLeastFirst (add bs (x ∷ []))) here (place_after bs x b lsm (known b refl)))
