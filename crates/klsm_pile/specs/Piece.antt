-- Pieces, as contracts see them.
use Rattle.std.specs.Prelude.{ℕ, List}
use Rattle.klsm_run.specs.declared.item.Item.{Item}

-- a sorted list of items, and the level of the block that they are a part of
pub record PieceState : Type 0 where
  pub items : List Item
  pub level : ℕ
