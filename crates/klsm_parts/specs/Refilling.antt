-- What moves at a refill from the shared part to the own one.
use Rattle.std.specs.Prelude.{ℕ, ◌-◌, ◌/◌, List, length, min, take}
use Rattle.klsm_run.specs.declared.item.Item.{Item}

-- half of the room that an own part has which may have k items, rounded up
abbrev pub half_room : ℕ → List Item → ℕ
half_room k own = (k - length own) - (k - length own) / 2

-- at most so many items: as many as there are, and as half the room is for
abbrev pub refill_count : ℕ → ℕ → List Item → List Item → ℕ
refill_count most k own shared = min most (min (half_room k own) (length shared))

-- so many of the least ones
abbrev pub refill_of : ℕ → ℕ → List Item → List Item → List Item
refill_of most k own shared = take (refill_count most k own shared) shared
