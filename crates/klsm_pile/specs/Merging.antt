-- Items of a level are merged into the front.
use Rattle.std.specs.Prelude.{ℕ, ◌≡◌, Bool, List, ◌++◌}
use Rattle.klsm_run.specs.declared.item.Item.{Item}
use Rattle.klsm_run.specs.Content.{sorted}
use Rattle.klsm_pile.specs.declared.fetched.Fetched.{Fetched}
use Rattle.klsm_pile.specs.Pieces.{counted, items_where}
use Rattle.klsm_pile.specs.Front.{singles, front_items}

pub record IsMerged (level : ℕ) (items : List Item) (front after : List Fetched) : Type 0 where
  pub ordered : front_items after ≡ sorted (front_items front ++ items)
  pub same : (test : ℕ → Bool) → sorted (items_where test (singles after)) ≡ sorted (items_where test (singles front) ++ counted (test level) items)
