-- Runs in their stores.
use Rattle.std.proofs.Common.{◌≡◌, ◌⊎◌, ℕ, ◌+◌, ◌-◌, ◌<◌, ◌≤◌, ◌^◌, List, [], ◌∷◌, ◌++◌, length, take, drop, get_or, Some, refl, sym, ap, ◌∙◌, subst, arith, inl, inr, zero, suc}
use Rattle.std.specs.List.{refill, slice_get}
use Rattle.std.proofs.lemmas.List.{take_all, take-append-drop, take-append-le, drop-drop, drop-append-le, drop-take, length-take, length-drop}
use Rattle.std.proofs.lemmas.Bool.{cases_lt}
use Rattle.std.proofs.Math.Pow.{pow_mono}
use Rattle.klsm_run.specs.declared.item.Item.{Item}
use Rattle.klsm_run.specs.declared.span.Span.{Span}
use Rattle.klsm_run.specs.ItemOrder.{IsSmaller}
use Rattle.klsm_run.specs.Block.{HasLevel}
use Rattle.klsm_run.specs.Content.{IsAscending}
use Rattle.klsm_run.specs.Capacity.{IsCapacity, IsRunCapacity, heap_room}
use Rattle.klsm_run.specs.Stores.{spanned, IsSpan, IsFixedRun, IsHeapRun}
use Rattle.klsm_run.proofs.AllLemmas.{all_front}
use Rattle.klsm_run.proofs.ShiftLemmas.{get_spanned}

-- the first of the first items
pub take_within : (n k : ℕ) (xs : List Item) → n ≤ k → take n (take k xs) ≡ take n xs
take_within zero k xs h = refl
take_within (suc n) zero xs h = absurd (omega (arith, h))
take_within (suc n) (suc k) [] h = refl
take_within (suc n) (suc k) (x ∷ xs) h = ap (λ (l : List Item). x ∷ l) (take_within n k xs (omega (arith, h)))

-- the first items of a span
pub first_kept : (count : ℕ) (span : Span) (stored : List Item) → count ≤ span.end - span.start → take (span.start + count - span.start) (drop span.start stored) ≡ take count (spanned span stored)
first_kept count span stored fewer =
    let places : span.start + count - span.start ≡ count = omega arith in
    ap (λ n. take n (drop span.start stored)) places ∙ sym (take_within _ _ (drop span.start stored) fewer)

-- a store that was lent whole comes back whole
pub lent_whole : (old new : List Item) → length new ≡ length old → refill (length old) old new ≡ new
lent_whole old new same = take-append-le (length old) new (drop (length new) old) (omega (arith, same)) ∙ take_all (length old) new (omega (arith, same))

-- a run has as many items as its span has places
pub length_spanned : (span : Span) (stored : List Item) → IsSpan span (length stored) → length (spanned span stored) ≡ span.end - span.start
length_spanned span stored within = omega (arith, length-take (span.end - span.start) (drop span.start stored), length-drop span.start stored, within.order, within.within)

-- a store of the heap that was lent comes back whole
pub heap_whole : (count : ℕ) (old new : List Item) → length old ≡ count → length new ≡ length old → take count (new ++ drop (length new) old) ≡ new
heap_whole count old new all same = take-append-le count new (drop (length new) old) (omega (arith, all, same)) ∙ take_all count new (omega (arith, all, same))

-- a store of the heap that was lent, with another run in it
pub heap_lent : (count places room : ℕ) (span : Span) (old new : List Item) → length old ≡ count → length new ≡ length old → IsSpan span (length new) → IsAscending (spanned span new)
    → length old ≤ places → places ≤ room → places ≤ heap_room → (places ≡ heap_room) ⊎ ((l : ℕ) × (places ≡ 2 ^ l)) → IsHeapRun span places room (take count (new ++ drop (length new) old))
heap_lent count places room span old new all same within up filled reserved few power =
    subst (IsHeapRun span places room) (sym (heap_whole count old new all same)) (record {
      ascending = up;
      span_in = within;
      filled = omega (arith, same, filled);
      reserved = reserved;
      at_most = few;
      whole_or_power = power;
    })

-- what lies behind a run is not of it
take_of_front : (n : ℕ) (front behind : List Item) → n ≤ length front → take n (front ++ behind) ≡ take n front
take_of_front zero front behind h = refl
take_of_front (suc n) [] behind h = absurd (omega (arith, h))
take_of_front (suc n) (x ∷ front) behind h = ap (λ xs. x ∷ xs) (take_of_front n front behind (omega (arith, h)))

spanned_front : (start count : ℕ) (front behind : List Item) → start + count ≤ length front → take count (drop start (front ++ behind)) ≡ take count (drop start front)
spanned_front zero count front behind h = take_of_front count front behind (omega (arith, h))
spanned_front (suc start) count [] behind h = absurd (omega (arith, h))
spanned_front (suc start) count (x ∷ front) behind h = spanned_front start count front behind (omega (arith, h))

-- a run stays where its store is filled further
pub spanned_kept : (span : Span) (old new : List Item) → IsSpan span (length old) → take (length old) new ≡ old → spanned span new ≡ spanned span old
spanned_kept span old new within kept =
    let parts : old ++ drop (length old) new ≡ new = subst (λ xs. xs ++ drop (length old) new ≡ new) kept (take-append-drop (length old) new) in
    subst (λ xs. spanned span xs ≡ spanned span old) parts (spanned_front span.start (span.end - span.start) old (drop (length old) new) (omega (arith, within.order, within.within)))

-- the last items of a span
pub last_kept : (count : ℕ) (span : Span) (stored : List Item) → count ≤ span.end - span.start → take (span.end - (span.start + count)) (drop (span.start + count) stored) ≡ drop count (spanned span stored)
last_kept count span stored fewer =
    let left = span.end - (span.start + count) in
    let places : count + left ≡ span.end - span.start = omega arith in
    ap (take left) (sym (drop-drop count span.start stored)) ∙ (sym (drop-take count left (drop span.start stored)) ∙ ap (λ n. drop count (take n (drop span.start stored))) places)

-- a fixed store that was lent, with another run in it
pub fixed_lent : (capacity : ℕ) (span : Span) (old new : List Item) → length new ≡ length old → IsSpan span (length new) → IsAscending (spanned span new)
    → length old ≡ capacity → IsCapacity capacity → IsFixedRun capacity span (refill (length old) old new)
fixed_lent capacity span old new same within up full range =
    subst (IsFixedRun capacity span) (sym (lent_whole old new same)) (record {
      ascending = up;
      span_in = subst (IsSpan span) (same ∙ full) within;
      full = same ∙ full;
      capacity_in_range = range;
    })

-- a span of the first places holds the items that were written there
pub first_written : (span : Span) (new items : List Item) → take (length items) new ≡ items → span.start ≡ 0 → span.end ≡ length items → spanned span new ≡ items
first_written span new items written start end =
    let count : span.end - span.start ≡ length items = omega (arith, start, end) in
    rw (count, start) written

-- a fixed store that was lent, with other items in its first places
pub fixed_written : (capacity : ℕ) (span : Span) (old new items : List Item) → length new ≡ length old → take (length items) new ≡ items → span.start ≡ 0 → span.end ≡ length items
    → IsAscending items → length items ≤ capacity → length old ≡ capacity → IsCapacity capacity → IsFixedRun capacity span (refill (length old) old new)
fixed_written capacity span old new items same written start end up few full range =
    fixed_lent capacity span old new same (record { order = omega (arith, start); within = omega (arith, end, few, same, full) })
    (subst IsAscending (sym (first_written span new items written start end)) up) full range

-- a block of this level has more than half as many items as the power of two
half_of_level : (l count : ℕ) → HasLevel l count → 2 ^ l < count + count
half_of_level zero count level = omega (arith, level)
half_of_level (suc l) count level = omega (arith, level.0)

-- a power of two that holds a block of this level holds each block of it
power_holds : (l m count : ℕ) → HasLevel l count → count ≤ 2 ^ m → 2 ^ l ≤ 2 ^ m
power_holds l m count level holds = elim (cases_lt m l) [
  | inl above ↦ absurd (let low : 2 ^ suc m ≤ 2 ^ l = pow_mono (omega (arith, above)) in omega (arith, low, half_of_level l count level, holds))
  | inr below ↦ pow_mono below
]

-- a store for all items that a run can have, or of a power of two, has room for a whole block
pub run_capacity : (room count capacity : ℕ) → capacity ≤ room → count ≤ capacity → (capacity ≡ room) ⊎ ((l : ℕ) × (capacity ≡ 2 ^ l)) → IsRunCapacity room count capacity
run_capacity room count capacity few holds power = record {
  at_most = few;
  holds = holds;
  whole_or_power = power;
  whole_block = λ l level. elim power [
    | inl whole ↦ omega (arith, whole)
    | inr exact ↦ omega (arith, power_holds l exact.0 count level (omega (arith, holds, exact.1)), exact.1)
  ];
}

-- the span of a fixed run is one of its store
pub fixed_span : {capacity : ℕ} {span : Span} {stored : List Item} → IsFixedRun capacity span stored → IsSpan span (length stored)
fixed_span run = record { order = run.span_in.order; within = omega (arith, run.span_in.within, run.full) }

-- a run in a fixed store has as many items as its span has places
pub fixed_count : {capacity : ℕ} {span : Span} {stored : List Item} → IsFixedRun capacity span stored → length (spanned span stored) ≡ span.end - span.start
fixed_count {capacity} {span} {stored} run = length_spanned span stored (fixed_span run)

-- and is within it
pub fixed_in_room : {capacity : ℕ} {span : Span} {stored : List Item} → IsFixedRun capacity span stored → length (spanned span stored) ≤ capacity
fixed_in_room run = omega (arith, fixed_count run, run.span_in.within)

-- and so is each part of it
pub first_in_room : (capacity count : ℕ) (items : List Item) → length items ≤ capacity → length (take count items) ≤ capacity
first_in_room capacity count items few = omega (arith, few, length-take count items)

pub others_in_room : (capacity count : ℕ) (items : List Item) → length items ≤ capacity → length (drop count items) ≤ capacity
others_in_room capacity count items few = omega (arith, few, length-drop count items)

-- the place of an item is within the store
pub place_in_store : (span : Span) (stored : List Item) {items : List Item} {index : ℕ} → IsSpan span (length stored) → spanned span stored ≡ items → index < length items → span.start + index < length stored
place_in_store span stored within view less = omega (arith, length_spanned span stored within, ap length view, less, within.order, within.within)

-- and there it lies
pub item_in_store : (span : Span) (stored : List Item) {items : List Item} {index : ℕ} (d : Item) → IsSpan span (length stored) → spanned span stored ≡ items → index < length items
    → slice_get items index ≡ Some (get_or stored (span.start + index) d)
item_in_store span stored {items} {index} d within view less =
    let few : index < span.end - span.start = omega (arith, length_spanned span stored within, ap length view, less) in
    ap (λ xs. slice_get xs index) (sym view) ∙ get_spanned span.start span.end index stored d few within.within

-- a span of the first places
pub spanned_first : (count : ℕ) (span : Span) (stored : List Item) → span.start ≡ 0 → span.end ≡ count → spanned span stored ≡ take count stored
spanned_first count span stored start end =
    let places : span.end - span.start ≡ count = omega (arith, start, end) in
    rw (places, start) refl

-- what lies behind a span may go
pub spanned_cut : (span : Span) (stored : List Item) → span.start ≤ span.end → spanned span (take span.end stored) ≡ spanned span stored
spanned_cut span stored order =
    let count = span.end - span.start in
    let places : span.end ≡ span.start + count = omega (arith, order) in
    let cut : drop span.start (take span.end stored) ≡ take count (drop span.start stored) = ap (λ n. drop span.start (take n stored)) places ∙ drop-take span.start count stored in
    ap (take count) cut ∙ take_within count count (drop span.start stored) (omega arith)

-- a span up to the end of its store
pub spanned_last : (span : Span) (stored : List Item) → span.start ≤ span.end → span.end ≡ length stored → spanned span stored ≡ drop span.start stored
spanned_last span stored order end = take_all (span.end - span.start) (drop span.start stored) (omega (arith, end, length-drop span.start stored))

-- a run that goes up to the end of its store, once more lies behind it
pub spanned_grown : (span : Span) (end : ℕ) (old new rest whole : List Item) → span.start ≤ span.end → span.end ≡ length old → end ≡ length new → length old ≤ length new → new ++ rest ≡ old ++ whole
    → spanned record { start = span.start; end = end } new ++ rest ≡ spanned span old ++ whole
spanned_grown span end old new rest whole order old_end new_end longer same =
    ap (λ xs. xs ++ rest) (spanned_last record { start = span.start; end = end } new (omega (arith, order, old_end, new_end, longer)) new_end)
    ∙ (sym (drop-append-le span.start new rest (omega (arith, order, old_end, longer)))
    ∙ (ap (drop span.start) same
    ∙ (drop-append-le span.start old whole (omega (arith, order, old_end))
    ∙ ap (λ xs. xs ++ whole) (sym (spanned_last span old order old_end)))))

pub ascending_front : (xs ys : List Item) → IsAscending (xs ++ ys) → IsAscending xs
ascending_front [] ys up = tt
ascending_front (x ∷ xs) ys up = (all_front (IsSmaller x) xs ys up.0, ascending_front xs ys up.1)
