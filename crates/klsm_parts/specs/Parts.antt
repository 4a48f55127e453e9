-- Parts, as contracts see them.
use Rattle.std.specs.Prelude.{ℕ, ◌≡◌, ◌+◌, ◌<◌, ◌≤◌, List, [], length, slice_get, slice_index_or, Option, Some}
use Rattle.klsm_run.specs.declared.item.Item.{Item}
use Rattle.klsm_run.specs.Capacity.{IsCapacity}
use Rattle.klsm_run.specs.declared.limits.TheConstants.{MOST_K}
use Rattle.klsm_run.specs.Content.{sorted}
use Rattle.klsm_lsm.specs.Lsm.{content}
use Rattle.klsm_lsm.specs.Limit.{IsLevelCount}
use Rattle.klsm_parts.specs.Least.{least}
use Rattle.klsm_pile.specs.Piles.{PileState}

-- an own part or a shared one: its k, and the blocks of its LSM
pub record PartState : Type 0 where
  pub k : ℕ
  pub blocks : List (List Item)

-- the items of a part, in ascending order
abbrev pub items_in : PartState → List Item
items_in part = sorted (content part.blocks)

-- the least item of a part, where it has one
abbrev pub least_in : PartState → Option Item
least_in part = slice_get (items_in part) 0

-- the candidates of a shared part, in ascending order: its least k+1 items
abbrev pub candidates_of : PartState → List Item
candidates_of shared = least (shared.k + 1) (content shared.blocks)

-- the least item is the first one of this block
pub record HasLeastFirst (blocks : List (List Item)) (at : ℕ) : Type 0 where
  pub inside : at < length blocks
  pub first : slice_get (slice_index_or blocks at []) 0 ≡ slice_get (sorted (content blocks)) 0

-- an own part has at most k items, and one run can hold these; where the block of the least item was found, it is that
pub record IsOwn (capacity : ℕ) (part : PartState) (found : Option ℕ) : Type 0 where
  pub few : length (content part.blocks) ≤ part.k
  pub k_in_range : part.k ≤ capacity
  pub capacity_in_range : IsCapacity capacity
  pub found_is : (at : ℕ) → found ≡ Some at → HasLeastFirst part.blocks at

-- a shared part is a pile of which the k+1 least items can be looked at
pub record IsShared (levels k : ℕ) (pile : PileState) : Type 0 where
  pub reach : pile.reach ≡ k + 1
  pub k_in_range : k ≤ MOST_K
  pub levels_in_range : IsLevelCount levels
