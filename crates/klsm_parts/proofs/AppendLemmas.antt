-- A list that gains the items of an LSM, block after block.
use Rattle.std.proofs.Common.{◌≡◌, ℕ, ◌≤◌, ◌<◌, ◌+◌, List, [], ◌++◌, length, take, drop, get_or, ap, sym, ◌∙◌, arith, length-append, append_assoc, take-append-drop, take_all}
use Rattle.klsm_run.specs.declared.item.Item.{Item}
use Rattle.klsm_run.specs.Content.{sorted}
use Rattle.klsm_run.proofs.ContentLemmas.{sorted_itself}
use Rattle.klsm_run.proofs.SortedLemmas.{length_sorted}
use Rattle.klsm_lsm.specs.Lsm.{content}
use Rattle.klsm_parts.specs.Parts.{PartState, items_in}
use Rattle.klsm_lsm.proofs.LeastLemmas.{content_append, content_more}

-- the items of the first n blocks stand behind those that a list had, and its room is no less
pub record AreListed (n : ℕ) (bs : List (List Item)) (before after : List Item) (len cap len' cap' : ℕ) : Type 0 where
  pub items : after ≡ before ++ content (take n bs)
  pub len_is : len' ≡ len + length (content (take n bs))
  pub room : cap ≤ cap'

-- the first blocks' items and those of the next are within those of all
pub next_within : (bs : List (List Item)) (i : ℕ) → i < length bs → length (content (take i bs)) + length (get_or bs i []) ≤ length (content bs)
next_within bs i within =
    let more : length (content (take (i + 1) bs)) ≡ length (content (take i bs)) + length (get_or bs i []) =
    ap length (content_more bs i within) ∙ length-append (content (take i bs)) (get_or bs i []) in
    let whole : length (content bs) ≡ length (content (take (i + 1) bs)) + length (content (drop (i + 1) bs)) =
    ap (λ z. length (content z)) (sym (take-append-drop (i + 1) bs))
    ∙ (ap length (content_append (take (i + 1) bs) (drop (i + 1) bs)) ∙ length-append (content (take (i + 1) bs)) (content (drop (i + 1) bs))) in
    omega (arith, more, whole)

-- the next block's items are listed
pub next_listed : (n : ℕ) (bs : List (List Item)) (before after : List Item) (len cap len' cap' : ℕ) (next : List Item) (cap'' : ℕ) → n < length bs → get_or bs n [] ≡ next → cap' ≤ cap''
    → AreListed n bs before after len cap len' cap' → AreListed (n + 1) bs before (after ++ next) len cap (len' + length next) cap''
next_listed n bs before after len cap len' cap' next cap'' within is room listed =
    let more : content (take (n + 1) bs) ≡ content (take n bs) ++ next = content_more bs n within ∙ ap (λ z. content (take n bs) ++ z) is in
    let longer : length (content (take (n + 1) bs)) ≡ length (content (take n bs)) + length next = ap length more ∙ length-append (content (take n bs)) next in
    record {
      items = ap (λ z. z ++ next) listed.items ∙ (append_assoc before (content (take n bs)) next ∙ ap (λ z. before ++ z) (sym more));
      len_is = omega (arith, listed.len_is, longer);
      room = omega (arith, listed.room, room);
    }

-- in the end all items are listed
pub all_listed : (n : ℕ) (bs : List (List Item)) (before after : List Item) (len cap len' cap' : ℕ) → length bs ≤ n → AreListed n bs before after len cap len' cap'
    → (after ≡ before ++ content bs) × (len' ≡ len + length (content bs))
all_listed n bs before after len cap len' cap' none_left listed =
    let whole = take_all n bs none_left in
    (listed.items ∙ ap (λ z. before ++ content z) whole, listed.len_is ∙ ap (λ z. len + length (content z)) whole)

-- a part has as many items as its blocks
pub so_many_in : (part : PartState) → length (items_in part) ≡ length (content part.blocks)
so_many_in part = length_sorted (content part.blocks)

-- they are in ascending order
pub in_order : (part : PartState) → sorted (items_in part) ≡ items_in part
in_order part = sorted_itself (content part.blocks)
