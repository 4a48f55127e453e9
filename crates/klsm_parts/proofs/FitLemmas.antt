-- Where a struct has a place in memory, each of its fields has one; and the parts have one, as their arrays are bounded.
use Rattle.std.proofs.Common.{ℕ, ◌+◌, ◌*◌, ◌<◌, max, arith}
use prog.Memory.{up}
use Rattle.klsm_run.specs.declared.limits.TheConstants.{OWN_LEVELS}
use Rattle.klsm_run.specs.Capacity.{IsCapacity}
use Rattle.klsm_lsm.specs.Limit.{IsLevelCount}

-- the bytes of an array of at most n values, each of a width
abbrev array_vec : ℕ → ℕ → ℕ
array_vec n width = up 8 (up 1 (up 8 (0 + up 8 (0 + n * width)) + 8) + 0)

-- of an option of s bytes
abbrev option : ℕ → ℕ
option s = up 8 (max 1 (max (8 + s) 1))

-- of an LSM with so many slots
abbrev lsm : ℕ → ℕ → ℕ
lsm levels slot = up 8 (up 8 (up 8 (0 + array_vec levels slot) + 8) + 8)

-- of a run of capacity n
abbrev run : ℕ → ℕ
run n = up 8 (up 8 (0 + array_vec n 32) + 16)

-- of an own part, of which a run has s bytes
abbrev local : ℕ → ℕ
local s = up 8 (up 8 (up 8 (0 + lsm OWN_LEVELS (option s)) + 8) + 16)

-- the last field but two, as the shared part of a queue
pub field_fits : (a b c d e s u n limit : ℕ) → up a (up e (up d (up b c + s) + u) + n) < limit → s < limit
field_fits a b c d e s u n limit whole = omega (arith, whole)

-- the last field but one, as its unions
pub unions_fit : (a b c d s n limit : ℕ) → up a (up d (up b c + s) + n) < limit → s < limit
unions_fit a b c d s n limit whole = omega (arith, whole)

-- the LSM of an own part
pub first_fits : (a b s n m limit : ℕ) → up a (up 8 (up b (0 + s) + n) + m) < limit → s < limit
first_fits a b s n m limit whole = omega (arith, whole)

-- a run in one of the slots of an own part
pub run_fits : (s limit : ℕ) → local s < limit → s < limit
run_fits s limit whole = omega (arith, whole)

-- the own part of a queue
pub own_fits : (a b d e s t u n limit : ℕ) → up a (up e (up d (up b (0 + s) + t) + u) + n) < limit → s < limit
own_fits a b d e s t u n limit whole = omega (arith, whole)

-- what is as small has a place
small_fits : (s : ℕ) → s < 1048576 → s < 9223372036854775808
small_fits s small = omega (arith, small)

-- a run of any capacity
run_is_small : (n : ℕ) → IsCapacity n → run n < 65536
run_is_small n capacity = omega (arith, capacity.at_most)

pub fixed_run_fits : (n : ℕ) → IsCapacity n → run n < 9223372036854775808
fixed_run_fits n capacity = small_fits _ (few (run n) (run_is_small n capacity)) where
  few : (s : ℕ) → s < 65536 → s < 1048576
  few s small = omega (arith, small)

-- a run of one item
pub one_fits : IsCapacity 1
one_fits = record { some_room = omega arith; at_most = omega arith }

-- the LSM of an own part of any capacity
lsm_is_small : (s : ℕ) → s < 65536 → lsm OWN_LEVELS (option s) < 1048576
lsm_is_small s small = whole _ (slots _ (slot s small)) where
  slot : (s : ℕ) → s < 65536 → option s < 65560
  slot s small = omega (arith, small)

  slots : (s : ℕ) → s < 65560 → array_vec OWN_LEVELS s < 800000
  slots s small = omega (arith, small)

  whole : (s : ℕ) → s < 800000 → up 8 (up 8 (up 8 (0 + s) + 8) + 8) < 1048576
  whole s small = omega (arith, small)

pub own_lsm_fits : (n : ℕ) → IsCapacity n → lsm OWN_LEVELS (option (run n)) < 9223372036854775808
own_lsm_fits n capacity = small_fits _ (lsm_is_small _ (run_is_small n capacity))

-- the own part
pub local_fits : (n : ℕ) → IsCapacity n → local (run n) < 9223372036854775808
local_fits n capacity = part_fits _ (lsm_is_small _ (run_is_small n capacity)) where
  part_fits : (s : ℕ) → s < 1048576 → up 8 (up 8 (up 8 (0 + s) + 8) + 16) < 9223372036854775808
  part_fits s small = omega (arith, small)

-- a pile of any number of levels: its front and the list of its pieces, the counts of its levels, and two numbers
abbrev pile : ℕ → ℕ
pile n = up 8 (up 8 (up 8 (104 + array_vec n 8) + 8) + 8)

-- the shared part
pub shared_fits : (n : ℕ) → IsLevelCount n → up 8 (up 1 (up 8 (0 + pile n) + 8) + 0) < 9223372036854775808
shared_fits n levels = omega (arith, levels.at_most)
