-- Blocks of an LSM, each of one level.
use Rattle.std.specs.Prelude.{ℕ, zero, suc, ◌≡◌, ◌<◌, ◌≤◌, ◌^◌, List, length}
use Rattle.klsm_run.specs.declared.item.Item.{Item}
use Rattle.klsm_run.specs.Content.{IsAscending}

-- a block of level l holds more than 2^(l-1) and at most 2^l items, and one of level 0 holds exactly one
abbrev pub HasLevel : ℕ → ℕ → Type 0
HasLevel zero n = n ≡ 1
HasLevel (suc l) n = (2 ^ l < n) × (n ≤ 2 ^ suc l)

-- a lawful block of a level
abbrev pub IsBlock : ℕ → List Item → Type 0
IsBlock l xs = IsAscending xs × HasLevel l (length xs)
