-- How far one thread has come since it told.
use Rattle.std.specs.Prelude.{ℕ}
use Rattle.klsm_progress.specs.declared.pace.Pace.{Pace}
use Rattle.klsm_progress.specs.declared.progress.Counted.{Counted}

-- what it counts
abbrev pub counted_by : Pace → Counted
counted_by pace = pace.counted

-- how many it has counted since it told of any
abbrev pub since_told : Pace → ℕ
since_told pace = pace.since
