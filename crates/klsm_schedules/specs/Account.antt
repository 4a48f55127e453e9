-- The account of a world: what all threads inserted and deleted, and which items are left.
use Rattle.std.specs.Prelude.{ℕ, List, length}
use Rattle.std.specs.List.{flat_map}
use Rattle.klsm_run.specs.declared.item.Item.{Item}
use Rattle.klsm_run.specs.Content.{sorted}
use Rattle.klsm_parts.specs.Events.{minus}
use Rattle.klsm_schedules.specs.declared.step.Entry.{Entry}
use Rattle.klsm_schedules.specs.OwnSteps.{inserted, deleted}

pub record Account : Type 0 where
  pub inserted : ℕ
  pub deleted : ℕ
  -- ascending
  pub left : List Item

-- the account of the threads' lists of own steps
abbrev pub account : List (List Entry) → Account
account lists = record {
  inserted = length (flat_map inserted lists);
  deleted = length (flat_map deleted lists);
  left = minus (sorted (flat_map inserted lists)) (flat_map deleted lists);
}
