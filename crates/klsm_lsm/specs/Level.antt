-- The level of a block: the least l such that the block has at most 2^l items.
use Rattle.std.specs.Prelude.{ℕ, zero, suc, ◌^◌, List, length, nat_lt, if◌then◌else◌}
use Rattle.klsm_run.specs.declared.item.Item.{Item}

-- the least l with n ≤ 2^l, where it is at most the first number
abbrev pub least_level_within : ℕ → ℕ → ℕ
least_level_within zero n = 0
least_level_within (suc l) n = if nat_lt (2 ^ l) n then suc l else least_level_within l n

-- the least l with n ≤ 2^l, which is never above n
unfoldable pub least_level : ℕ → ℕ
least_level n = least_level_within n n

-- the level of a block
abbrev pub level : List Item → ℕ
level block = least_level (length block)
