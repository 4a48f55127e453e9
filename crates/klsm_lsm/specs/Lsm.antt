-- LSMs: lists of blocks, the greatest level first.
use Rattle.std.specs.Prelude.{◌<◌, List, [], ◌∷◌, ◌++◌}
use Rattle.std.specs.List.{AllByRecursion}
use Rattle.klsm_run.specs.declared.item.Item.{Item}
use Rattle.klsm_run.specs.Block.{IsBlock}
use Rattle.klsm_run.specs.Content.{ShareNone}
use Rattle.klsm_lsm.specs.Level.{level}

-- the content: the items of all blocks
abbrev pub content : List (List Item) → List Item
content [] = []
content (b ∷ bs) = b ++ content bs

-- lawful blocks of descending levels, no item in two of them
abbrev pub IsLsm : List (List Item) → Type 0
IsLsm [] = Unit {0}
IsLsm (b ∷ bs) = IsBlock (level b) b × AllByRecursion (λ c. level c < level b) bs × ShareNone b (content bs) × IsLsm bs
