-- Items and their levels, which lie apart.
use Rattle.std.specs.Prelude.{ℕ, List, [], ◌∷◌}
use Rattle.klsm_run.specs.declared.item.Item.{Item}
use Rattle.klsm_pile.specs.declared.fetched.Fetched.{Fetched}

-- each item with the level at its place
abbrev pub labelled : List Item → List ℕ → List Fetched
labelled [] ls = []
labelled (x ∷ xs) [] = []
labelled (x ∷ xs) (l ∷ ls) = record { item = x; level = l } ∷ labelled xs ls

-- a front as contracts see it: its items, and for how many it has room
pub record FrontState : Type 0 where
  pub items : List Fetched
  pub capacity : ℕ
