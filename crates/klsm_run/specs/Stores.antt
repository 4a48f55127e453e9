-- How a run lies in its store. No public clause speaks of it but for the items and the capacity of a run on the heap.
use Rattle.std.specs.Prelude.{ℕ, ◌≡◌, ◌⊎◌, ◌-◌, ◌≤◌, ◌^◌, List, length, take, drop}
use Rattle.klsm_run.specs.declared.item.Item.{Item}
use Rattle.klsm_run.specs.declared.span.Span.{Span}
use Rattle.klsm_run.specs.Content.{IsAscending}
use Rattle.klsm_run.specs.Capacity.{IsCapacity, heap_room}

-- the stored items from `start` up to `end`
abbrev pub spanned : Span → List Item → List Item
spanned span stored = take (span.end - span.start) (drop span.start stored)

-- a span of a store of so many places
pub record IsSpan (span : Span) (places : ℕ) : Type 0 where
  pub order : span.start ≤ span.end
  pub within : span.end ≤ places

-- a run in a fixed store
pub record IsFixedRun (capacity : ℕ) (span : Span) (stored : List Item) : Type 0 where
  pub ascending : IsAscending (spanned span stored)
  pub span_in : IsSpan span capacity
  pub full : length stored ≡ capacity
  pub capacity_in_range : IsCapacity capacity

-- a run in a store of the heap, which has room for so many items at least and of which `places` are reserved for the run
pub record IsHeapRun (span : Span) (places room : ℕ) (stored : List Item) : Type 0 where
  pub ascending : IsAscending (spanned span stored)
  pub span_in : IsSpan span (length stored)
  pub filled : length stored ≤ places
  pub reserved : places ≤ room
  pub at_most : places ≤ heap_room
  pub whole_or_power : (places ≡ heap_room) ⊎ ((l : ℕ) × (places ≡ 2 ^ l))

-- a run on the heap as contracts see it: its items, and for how many its store has places
pub record HeapState : Type 0 where
  pub items : List Item
  pub capacity : ℕ
