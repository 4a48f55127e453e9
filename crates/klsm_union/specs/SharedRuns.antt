-- How the items of a shared run lie in its store.
use Rattle.std.specs.Prelude.{ℕ, ◌≡◌, ◌+◌, ◌≤◌, List, length}
use Rattle.klsm_run.specs.declared.item.Item.{Item}
use Rattle.klsm_run.specs.Content.{IsAscending}
use Rattle.klsm_run.specs.Capacity.{heap_room}

-- of the stored items, `len` are left from place `start` on
pub record IsSharedRun (start len : ℕ) (stored : List Item) : Type 0 where
  pub places : start + len ≡ length stored
  pub few : length stored ≤ heap_room
  pub ascending : IsAscending stored
