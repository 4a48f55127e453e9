-- The pivots of a shared part: how many of each block's first items are candidates.
use Rattle.std.specs.Prelude.{ℕ, ◌≡◌, ◌≤◌, List, [], ◌∷◌, ◌++◌, length, take, drop, slice_get, Some}
use Rattle.klsm_run.specs.declared.item.Item.{Item}
use Rattle.klsm_run.specs.Content.{sorted}
use Rattle.klsm_lsm.specs.Lsm.{content}
use Rattle.klsm_parts.specs.Least.{least}

-- the first items of each block, as many as its pivot says, together
abbrev pub marked : List (List Item) → List ℕ → List Item
marked [] pivots = []
marked (b ∷ bs) [] = []
marked (b ∷ bs) (p ∷ ps) = take p b ++ marked bs ps

-- the other items of each block
abbrev pub unmarked : List (List Item) → List ℕ → List (List Item)
unmarked [] pivots = []
unmarked (b ∷ bs) [] = b ∷ bs
unmarked (b ∷ bs) (p ∷ ps) = drop p b ∷ unmarked bs ps

-- a pivot for each block, which counts some of its items
abbrev pub AreWithin : List (List Item) → List ℕ → Type 0
AreWithin [] [] = Unit {0}
AreWithin [] (p ∷ ps) = ⊥
AreWithin (b ∷ bs) [] = ⊥
AreWithin (b ∷ bs) (p ∷ ps) = (p ≤ length b) × AreWithin bs ps

-- exact pivots: the marked items are the least n
pub record ArePivots (n : ℕ) (blocks : List (List Item)) (pivots : List ℕ) : Type 0 where
  pub within : AreWithin blocks pivots
  pub exact : sorted (marked blocks pivots) ≡ least n (content blocks)

-- block `at` has this pivot
abbrev pub IsPivotAt : ℕ → List (List Item) → ℕ → ℕ → Type 0
IsPivotAt n blocks at pivot = (pivots : List ℕ) × ArePivots n blocks pivots × (slice_get pivots at ≡ Some pivot)
