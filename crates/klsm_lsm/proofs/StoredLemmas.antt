-- The blocks in the first slots.
use Rattle.std.proofs.Common.{◌≡◌, ℕ, ◌+◌, ◌-◌, ◌<◌, ◌≤◌, List, [], ◌∷◌, ◌++◌, length, get_or, set, take, drop, remove, Option, Some, sym, ap, ◌∙◌, subst, arith, zero, suc}
use Rattle.std.specs.List.{refill, take-map}
use Rattle.std.proofs.lemmas.List.{length-map, length-set, length-take, length-drop, length-append, take_all, take_more_set, map-set, get_or-take}
use Rattle.klsm_run.specs.declared.item.Item.{Item}
use Rattle.klsm_lsm.specs.Lsm.{content}
use Rattle.klsm_lsm.specs.Limit.{IsLsmWithin}
use Rattle.klsm_lsm.specs.Slots.{block_in, blocks_in, with_block, IsStored, IsSlotted}
use Rattle.klsm_lsm.proofs.LimitLemmas.{blocks_fit}
use Rattle.klsm_lsm.proofs.SlotLemmas.{some_at, block_in_slot, blocks_in_remove, blocks_in_with, refill_same}

abbrev Blocks : Type 0
Blocks = List (List Item)

-- there are as many blocks as slots that hold one
pub count_blocks : {levels room len count : ℕ} {slots : Blocks} → IsSlotted levels room len count slots → length (take count slots) ≡ count
count_blocks {levels} {room} {len} {count} {slots} s = omega (arith, length-take count slots, s.within)

-- at most as many as levels
pub few_blocks : {levels room len count : ℕ} {slots : Blocks} → IsSlotted levels room len count slots → count ≤ levels
few_blocks {levels} {room} {len} {count} {slots} s = omega (arith, count_blocks s, blocks_fit levels room len (take count slots) s.stored)

-- the same of what an LSM shows
pub shown : {levels room len count : ℕ} {slots : Blocks} (now : Blocks) → IsSlotted levels room len count slots → take count slots ≡ now → IsStored levels room len now
shown {levels} {room} {len} now s is = subst (λ (bs : Blocks). IsStored levels room len bs) is s.stored

-- the first block goes
pub stored_rest : (levels room len : ℕ) (bs : Blocks) → IsStored levels room len bs → 0 < length bs → IsStored levels room (len - length (get_or bs 0 [])) (drop 1 bs)
stored_rest levels room len [] s some = absurd (omega (arith, some))
stored_rest levels room len (b ∷ bs) s some = record {
  within = record {
    lawful = s.within.lawful.3;
    in_limit = omega (arith, s.within.in_limit, length-append b (content bs));
    levels_in_range = s.within.levels_in_range;
  };
  counted = omega (arith, s.counted, length-append b (content bs));
}

-- and has at most all items
pub first_within : (levels room len : ℕ) (bs : Blocks) → IsStored levels room len bs → 0 < length bs → length (get_or bs 0 []) ≤ len
first_within levels room len [] s some = absurd (omega (arith, some))
first_within levels room len (b ∷ bs) s some = omega (arith, s.counted, length-append b (content bs))

-- the first of several blocks is taken out
pub take_rest_of : (count : ℕ) (slots : Blocks) → 0 < count → take (count - 1) (drop 1 slots) ≡ drop 1 (take count slots)
take_rest_of zero slots some = absurd (omega (arith, some))
take_rest_of (suc count) [] some = take_all (suc count - 1) [] (omega arith)
take_rest_of (suc count) (b ∷ slots) some = let same : suc count - 1 ≡ count = omega arith in ap (λ n. take n slots) same

-- other slots with these blocks in the first ones
pub slotted : (levels room len count : ℕ) (slots bs : Blocks) → take count slots ≡ bs → count ≤ length slots → IsStored levels room len bs → IsSlotted levels room len count slots
slotted levels room len count slots bs is within stored = record { stored = subst (IsStored levels room len) (sym is) stored; within = within }

-- the blocks with one in the place of some
pub length_with : (bs : Blocks) (start end : ℕ) (b : List Item) → start ≤ end → end ≤ length bs → length (with_block bs start end b) ≡ length bs - (end - start) + 1
length_with bs start end b order within = omega (arith, length-append (take start bs) (b ∷ drop end bs), length-take start bs, length-drop end bs)

-- the first slot, taken out with its run
pub record IsFirst {R : Type 0} (items : R → List Item) (levels room len count : ℕ) (slots : List (Option R)) (largest : Option R) : Type 0 where
  pub block_is : get_or (take count (blocks_in items slots)) 0 [] ≡ block_in items largest
  pub some : 0 < length (block_in items largest)
  pub within : length (block_in items largest) ≤ len
  pub gone : IsSlotted levels room (len - length (block_in items largest)) (count - 1) (blocks_in items (remove slots 0))
  pub rest : take (count - 1) (blocks_in items (remove slots 0)) ≡ drop 1 (take count (blocks_in items slots))

pub first_slot : {R : Type 0} (items : R → List Item) {levels room len count : ℕ} (slots : List (Option R)) (largest : Option R) → IsSlotted levels room len count (blocks_in items slots) → 0 < count
    → largest ≡ get_or slots 0 largest → IsFirst items levels room len count slots largest
first_slot {R} items {levels} {room} {len} {count} slots largest s some is =
    let bs : Blocks = blocks_in items slots in
    let many : 0 < length slots = omega (arith, rw length-map at s.within, some) in
    let here : get_or (take count bs) 0 [] ≡ block_in items largest = get_or-take count bs 0 [] some ∙ (block_in_slot items slots 0 largest many ∙ ap (block_in items) (sym is)) in
    let blocks : 0 < length (take count bs) = omega (arith, count_blocks s, some) in
    let left : take (count - 1) (blocks_in items (remove slots 0)) ≡ drop 1 (take count bs) = ap (take (count - 1)) (blocks_in_remove items slots 0) ∙ take_rest_of count bs some in
    let fewer : length (blocks_in items (remove slots 0)) + 1 ≡ length bs = omega (arith, ap length (blocks_in_remove items slots 0), length-drop 1 bs, s.within, some) in
    record {
      block_is = here;
      some = subst (λ b. 0 < length b) here (some_at (take count bs) 0 s.stored.within.lawful blocks);
      within = subst (λ b. length b ≤ len) here (first_within levels room len (take count bs) s.stored blocks);
      gone = slotted levels room (len - length (block_in items largest)) (count - 1) (blocks_in items (remove slots 0)) (drop 1 (take count bs)) left (omega (arith, fewer, s.within))
          (subst (λ b. IsStored levels room (len - length b) (drop 1 (take count bs))) here (stored_rest levels room len (take count bs) s.stored blocks));
      rest = left;
    }

-- slots that were lent whole, with these blocks in the first ones
pub slots_back : {R : Type 0} (items : R → List Item) (levels room len count : ℕ) (old new : List (Option R)) (bs : Blocks) → length new ≡ length old → count ≤ length old → take count (blocks_in items new) ≡ bs
    → IsStored levels room len bs → IsSlotted levels room len count (blocks_in items (refill (length old) old new))
slots_back {R} items levels room len count old new bs same within is stored =
    subst (λ (xs : List (Option R)). IsSlotted levels room len count (blocks_in items xs)) (sym (refill_same old new same))
    (slotted levels room len count (blocks_in items new) bs is (rw length-map (omega (arith, same, within))) stored)

pub view_back : {R : Type 0} (items : R → List Item) (count : ℕ) (old new : List (Option R)) (bs : Blocks) → length new ≡ length old → take count (blocks_in items new) ≡ bs
    → take count (blocks_in items (refill (length old) old new)) ≡ bs
view_back {R} items count old new bs same is = ap (λ (xs : List (Option R)). take count (blocks_in items xs)) (refill_same old new same) ∙ is

-- the blocks with one in the place of some, which has more items than they
pub record IsPut {R : Type 0} (items : R → List Item) (levels room len count start end added : ℕ) (slots : List (Option R)) (now whole : Blocks) : Type 0 where
  pub few : length whole ≤ levels
  pub blocks : length now ≡ count
  pub count_is : count - (end - start) + 1 ≡ length whole
  pub stored : IsStored levels room (len + added) whole

pub put_blocks : {R : Type 0} (items : R → List Item) (levels room len count start end added : ℕ) (slots : List (Option R)) (now : Blocks) (b : List Item) → IsSlotted levels room len count (blocks_in items slots)
    → take count (blocks_in items slots) ≡ now → start ≤ end → end ≤ length now → IsLsmWithin levels room (with_block now start end b) → length (content now) + added ≡ length (content (with_block now start end b))
    → IsPut items levels room len count start end added slots now (with_block now start end b)
put_blocks items levels room len count start end added slots now b s view order within lawful counted =
    let many : length now ≡ count = sym (ap length view) ∙ count_blocks s in
    let stored : IsStored levels room (len + added) (with_block now start end b) = record { within = lawful; counted = omega (arith, s.stored.counted, ap (λ (bs : Blocks). length (content bs)) view, counted) } in
    record {
      few = blocks_fit levels room (len + added) (with_block now start end b) stored;
      blocks = many;
      count_is = omega (arith, many, length_with now start end b order within);
      stored = stored;
    }

-- the slots in which it was put
pub put_slots : {R : Type 0} (items : R → List Item) (count start end : ℕ) (slots first new : List (Option R)) (now : Blocks) (run : R) → take count (blocks_in items slots) ≡ now → first ≡ take count slots
    → new ≡ take start first ++ Some run ∷ drop end first → blocks_in items new ≡ with_block now start end (items run)
put_slots items count start end slots first new now run view truncated is =
    ap (blocks_in items) is ∙ (blocks_in_with items first start end run
    ∙ ap (λ (bs : Blocks). with_block bs start end (items run)) (ap (blocks_in items) truncated ∙ (sym (take-map (block_in items) count slots) ∙ view)))

-- a run in the slot behind the blocks
pub last_put : {R : Type 0} (items : R → List Item) (count : ℕ) (before slots lent : List (Option R)) (slot : Option R) (block : List Item) → lent ≡ slots → take count slots ≡ take count before → count < length slots → block_in items slot ≡ block
    → take (count + 1) (blocks_in items (refill (length slots) slots (set lent count slot))) ≡ take count (blocks_in items before) ++ block ∷ []
last_put {R} items count before slots lent slot block same kept within is =
    let back : refill (length slots) slots (set lent count slot) ≡ set slots count slot =
    ap (λ (xs : List (Option R)). refill (length slots) slots (set xs count slot)) same ∙ refill_same slots (set slots count slot) (length-set slots count slot) in
    ap (λ (xs : List (Option R)). take (count + 1) (blocks_in items xs)) back
    ∙ (ap (take (count + 1)) (map-set (block_in items) slots count slot)
    ∙ (take_more_set (blocks_in items slots) count (block_in items slot) (rw length-map within)
    ∙ (ap (λ b. take count (blocks_in items slots) ++ b ∷ []) is
    ∙ ap (λ (bs : Blocks). bs ++ block ∷ []) (take-map (block_in items) count slots ∙ (ap (blocks_in items) kept ∙ sym (take-map (block_in items) count before))))))
