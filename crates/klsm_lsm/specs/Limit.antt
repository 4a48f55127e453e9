-- How many items an LSM can hold.
use Rattle.std.specs.Prelude.{ℕ, ◌-◌, ◌≤◌, ◌^◌, min, List, length}
use Rattle.klsm_run.specs.declared.item.Item.{Item}
use Rattle.klsm_run.specs.declared.limits.TheConstants.{MOST_LEVELS}
use Rattle.klsm_lsm.specs.Lsm.{content, IsLsm}

-- an LSM has 1 to `MOST_LEVELS` levels
pub record IsLevelCount (levels : ℕ) : Type 0 where
  pub some_level : 1 ≤ levels
  pub at_most : levels ≤ MOST_LEVELS

-- one block of the greatest level, where one run can hold that many items
abbrev pub limit_of : ℕ → ℕ → ℕ
limit_of levels room = min (2 ^ (levels - 1)) room

-- a lawful LSM of so many levels, over runs that hold so many items, within its limit
pub record IsLsmWithin (levels room : ℕ) (blocks : List (List Item)) : Type 0 where
  pub lawful : IsLsm blocks
  pub in_limit : length (content blocks) ≤ limit_of levels room
  pub levels_in_range : IsLevelCount levels
