-- How an LSM is stored. No public clause speaks of it.
use Rattle.std.specs.Prelude.{ℕ, ◌≡◌, ◌≤◌, List, [], ◌∷◌, ◌++◌, length, map, take, drop, Option}
use Rattle.std.specs.Option.{option_map_or}
use Rattle.klsm_run.specs.declared.item.Item.{Item}
use Rattle.klsm_lsm.specs.Lsm.{content}
use Rattle.klsm_lsm.specs.Limit.{IsLsmWithin}

-- the items in a slot; a slot with no run has none
abbrev pub block_in : {R : Type 0} → (R → List Item) → Option R → List Item
block_in items slot = option_map_or items slot []

-- the blocks in a list of slots
abbrev pub blocks_in : {R : Type 0} → (R → List Item) → List (Option R) → List (List Item)
blocks_in items slots = map (block_in items) slots

-- the blocks with one in the place of those from `start` up to `end`
abbrev pub with_block : List (List Item) → ℕ → ℕ → List Item → List (List Item)
with_block blocks start end block = take start blocks ++ block ∷ drop end blocks

-- a lawful LSM within its limit, with its number of items counted
pub record IsStored (levels room len : ℕ) (blocks : List (List Item)) : Type 0 where
  pub within : IsLsmWithin levels room blocks
  pub counted : len ≡ length (content blocks)

-- the first `count` slots hold a lawful LSM within its limit, and the others keep their stores
pub record IsSlotted (levels room len count : ℕ) (slots : List (List Item)) : Type 0 where
  pub stored : IsStored levels room len (take count slots)
  pub within : count ≤ length slots
