-- What a seat at the incumbent knows.
use Rattle.std.specs.Prelude.{ℕ, ◌≡◌, List}
use Rattle.klsm_knapsack.specs.declared.incumbent.Incumbent.{Incumbent}
use Rattle.klsm_knapsack.specs.declared.incumbent.IncumbentSeat.{IncumbentSeat}
use Rattle.klsm_instance.specs.Selections.{Problem}

-- the greatest number that it found there
abbrev pub found_by : IncumbentSeat → ℕ
found_by seat = seat.table_seat.me.0.found

-- the numbers by which it raised the word, the latest first
abbrev pub raised_by : IncumbentSeat → List ℕ
raised_by seat = seat.table_seat.me.0.raised

-- the seat is one at this incumbent
abbrev pub IsSeatAt : Incumbent → IncumbentSeat → Type 0
IsSeatAt i seat = seat.table_seat.table_id ≡ i.table.shared.table_id

-- the problem whose selections the incumbent has
abbrev pub problem_of : Incumbent → Problem
problem_of i = i.table.shared.key
