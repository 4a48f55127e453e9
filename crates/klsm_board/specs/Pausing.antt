-- What comes between two tries of a call that may wait.
use Rattle.std.specs.Prelude.{ℕ, ⊤, ◌+◌, ◌<◌, ◌%◌, ltb, if◌then◌else◌}
use Rattle.klsm_board.specs.declared.pausing.Rest.{Rest}
use Rattle.klsm_board.specs.declared.pausing.Rest.TheVariants.{Snooze, Sleep}
use Rattle.klsm_board.specs.Rule.{place}

-- After 200 misses it sleeps for at most 50 microseconds, as long as the lock that it met names the same holder.
abbrev pub rest_after : ℕ → ℕ → ℕ → Rest
rest_after misses lock by = if ltb misses 200 then Snooze else Sleep (place lock) ((by + 1) % 4294967296) 50

-- a rest on a word of a table that has so many
abbrev pub SleepsWithin : Rest → ℕ → Type 0
SleepsWithin Snooze words = ⊤
SleepsWithin (Sleep word expected micros) words = word < words

-- the misses are counted so far
abbrev pub most_misses : ℕ
most_misses = 4294967295
