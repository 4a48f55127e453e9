-- Adding a run to an LSM, and cutting items out of it, on lists of blocks.
use Rattle.std.specs.Prelude.{ℕ, zero, suc, ◌+◌, ◌==◌, List, [], ◌∷◌, ◌++◌, length, nat_lt, take, drop, if◌then◌else◌}
use Rattle.klsm_run.specs.declared.item.Item.{Item}
use Rattle.klsm_run.specs.Content.{sorted}
use Rattle.klsm_lsm.specs.Level.{level}

-- a block before others: with a next one of no lesser level it becomes one
abbrev pub joined : List Item → List (List Item) → List (List Item)
joined b [] = b ∷ []
joined b (c ∷ cs) = if nat_lt (level c) (level b) then b ∷ c ∷ cs else sorted (b ++ c) ∷ cs

-- the blocks with a run: it goes before the blocks of lesser levels, and while two blocks are of one level they become one
abbrev pub add : List (List Item) → List Item → List (List Item)
add [] run = run ∷ []
add (b ∷ bs) run = if nat_lt (level b) (level run) then run ∷ b ∷ bs else joined b (add bs run)

-- a run without the `count` items from place `from` on
abbrev pub without_items : List Item → ℕ → ℕ → List Item
without_items run from count = take from run ++ drop (from + count) run

-- the blocks without the `count` items from place `from` on of block `at`: an empty block goes, and one that falls to the level of the
-- next, or below it, becomes one with it
abbrev pub cut_items : List (List Item) → ℕ → ℕ → ℕ → List (List Item)
cut_items [] at from count = []
cut_items (b ∷ bs) zero from count = if length b == count then bs else joined (without_items b from count) bs
cut_items (b ∷ bs) (suc at) from count = b ∷ cut_items bs at from count

-- the blocks without item `index` of block `at`
abbrev pub cut : List (List Item) → ℕ → ℕ → List (List Item)
cut blocks at index = cut_items blocks at index 1
