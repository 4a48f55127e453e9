-- Which blocks become one where a run is added or items are cut out, told before.
use Rattle.std.specs.Prelude.{ℕ, ◌≡◌, ◌+◌, ◌-◌, ◌<◌, ◌≤◌, ◌==◌, List, [], ◌∷◌, ◌++◌, length, take, drop, remove, slice_get, slice_set, slice_index_or, if◌then◌else◌, Option, Some, None}
use Rattle.klsm_run.specs.declared.item.Item.{Item}
use Rattle.klsm_run.specs.Block.{IsBlock}
use Rattle.klsm_run.specs.Content.{sorted, ShareNone}
use Rattle.klsm_lsm.specs.Level.{least_level, level}
use Rattle.klsm_lsm.specs.Lsm.{content}
use Rattle.klsm_lsm.specs.Adding.{add, without_items, cut}

-- the blocks with a run that becomes one with the `count` blocks from `first` on
abbrev pub united : List (List Item) → ℕ → ℕ → List Item → List (List Item)
united blocks first count run = take first blocks ++ sorted (content (take count (drop first blocks)) ++ run) ∷ drop (first + count) blocks

-- each run of level l that shares no item is added as one with the `count` blocks from `first` on
pub record IsCascade (blocks : List (List Item)) (l first count : ℕ) : Type 0 where
  pub within : first + count ≤ length blocks
  pub adds : (run : List Item) → IsBlock l run → ShareNone (content blocks) run → add blocks run ≡ united blocks first count run

-- without `count` of its items block `at` has some left, which are of no greater level than the next block
pub record JoinsNext (blocks : List (List Item)) (at count : ℕ) : Type 0 where
  pub within : at + 1 < length blocks
  pub some_left : count < length (slice_index_or blocks at [])
  pub no_greater : least_level (length (slice_index_or blocks at []) - count) ≤ level (slice_index_or blocks (at + 1) [])

-- a block and the next one without some items of the first of the two, as one block
abbrev pub cut_together : List (List Item) → ℕ → ℕ → ℕ → List (List Item)
cut_together blocks at from count =
    take at blocks ++ sorted (without_items (slice_index_or blocks at []) from count ++ slice_index_or blocks (at + 1) []) ∷ drop (at + 2) blocks

-- the blocks without some items of one of them, and without that block where they were all
abbrev pub cut_alone : List (List Item) → ℕ → ℕ → ℕ → List (List Item)
cut_alone blocks at from count =
    if length (slice_index_or blocks at []) == count then remove blocks at else slice_set blocks at (without_items (slice_index_or blocks at []) from count)

-- the block that becomes one with block `at` where any of its items is cut out. With `None` no two blocks become one
abbrev pub IsPartner : List (List Item) → ℕ → Option ℕ → Type 0
IsPartner blocks at None = (index : ℕ) → index < length (slice_index_or blocks at []) → cut blocks at index ≡ cut_alone blocks at index 1
IsPartner blocks at (Some next) =
    (next ≡ at + 1) × (next < length blocks) × (1 < length (slice_index_or blocks at []))
    × ((index : ℕ) → index < length (slice_index_or blocks at []) → cut blocks at index ≡ cut_together blocks at index 1)

-- the block that begins with the least of all items. With `None` there is no block
abbrev pub IsLeastBlock : List (List Item) → Option ℕ → Type 0
IsLeastBlock blocks None = blocks ≡ []
IsLeastBlock blocks (Some at) = (at < length blocks) × (slice_get (slice_index_or blocks at []) 0 ≡ slice_get (sorted (content blocks)) 0)
