-- What adding and cutting keep.
use Rattle.std.specs.Prelude.{ℕ, ◌≡◌, ◌<◌, List, [], ◌∷◌, ◌++◌, length, slice_get, slice_index_or, Some}
use Rattle.std.specs.List.{AllByRecursion}
use Rattle.klsm_run.specs.declared.item.Item.{Item}
use Rattle.klsm_run.specs.Block.{IsBlock}
use Rattle.klsm_run.specs.Content.{sorted, ShareNone}
use Rattle.klsm_lsm.specs.Level.{level}
use Rattle.klsm_lsm.specs.Lsm.{content, IsLsm}
use Rattle.klsm_lsm.specs.Adding.{add, cut}

-- adding a block that shares no item keeps an LSM lawful, and its content is the old one with the block's items
abbrev pub AddKeeps : Type 0
AddKeeps = (blocks : List (List Item)) (run : List Item) → IsLsm blocks → IsBlock (level run) run → ShareNone (content blocks) run
    → IsLsm (add blocks run) × (sorted (content (add blocks run)) ≡ sorted (content blocks ++ run))

-- a run of a level that no block has goes between the blocks of greater levels and those of lesser ones
abbrev pub AddPuts : Type 0
AddPuts = (greater lesser : List (List Item)) (run : List Item) → IsLsm greater
    → AllByRecursion (λ b. level run < level b) greater → AllByRecursion (λ b. level b < level run) lesser
    → add (greater ++ lesser) run ≡ greater ++ run ∷ lesser

-- a run of a block's level is added as one with that block, to the other blocks
abbrev pub AddMerges : Type 0
AddMerges = (greater lesser : List (List Item)) (block run : List Item) → IsLsm (greater ++ block ∷ lesser) → 0 < length run → level block ≡ level run
    → add (greater ++ block ∷ lesser) run ≡ add (greater ++ lesser) (sorted (block ++ run))

-- cutting an item keeps an LSM lawful, and its content is the old one without the item
abbrev pub CutKeeps : Type 0
CutKeeps = (blocks : List (List Item)) (at index : ℕ) (item : Item) → IsLsm blocks → slice_get (slice_index_or blocks at []) index ≡ Some item
    → IsLsm (cut blocks at index) × (sorted (item ∷ content (cut blocks at index)) ≡ sorted (content blocks))
