-- How many items a run can hold, and how many its store has places for.
use Rattle.std.specs.Prelude.{ℕ, ◌≡◌, ◌⊎◌, ◌≤◌, ◌^◌, min}
use Rattle.klsm_run.specs.Block.{HasLevel}
use Rattle.klsm_run.specs.declared.limits.TheConstants.{MOST_K, MOST_SHARED}

-- a fixed store is of 1 to `MOST_K` items
pub record IsCapacity (capacity : ℕ) : Type 0 where
  pub some_room : 1 ≤ capacity
  pub at_most : capacity ≤ MOST_K

-- how many items a run on the heap can hold
abbrev pub heap_room : ℕ
heap_room = MOST_SHARED

-- the capacity of a run of so many items, where a run can have at most `room`: room for a whole block of its level
pub record IsRunCapacity (room count capacity : ℕ) : Type 0 where
  pub at_most : capacity ≤ room
  pub holds : count ≤ capacity
  pub whole_or_power : (capacity ≡ room) ⊎ ((l : ℕ) × (capacity ≡ 2 ^ l))
  pub whole_block : (l : ℕ) → HasLevel l count → min room (2 ^ l) ≤ capacity

-- the least power of two that is at least so many
pub record IsPowerFor (count capacity : ℕ) : Type 0 where
  pub power : (l : ℕ) × (capacity ≡ 2 ^ l)
  pub holds : count ≤ capacity
  pub least : (l : ℕ) → count ≤ 2 ^ l → capacity ≤ 2 ^ l
