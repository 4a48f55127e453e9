-- How far the reading of a whole script has come.
use Rattle.std.specs.Prelude.{ℕ, ◌≡◌, ◌+◌, ◌<◌, ◌≤◌, List, [], ◌∷◌, ◌++◌, length, map, slice_index_or}
use Rattle.std.specs.Prelude.{if◌then◌else◌, true, Option, Result, Ok, Err}
use Rattle.klsm_text.specs.declared.request.Operation.{Operation}
use Rattle.klsm_text.specs.declared.request.Operation.TheVariants.{Insert, Delete}
use Rattle.klsm_text.specs.declared.request.Request.{Request}
use Rattle.klsm_text.specs.declared.stop.Stop.{Stop}
use Rattle.klsm_text.specs.declared.stop.Stop.TheVariants as stop
use Rattle.klsm_text.specs.declared.thread_rows.ThreadRow.{ThreadRow}
use Rattle.klsm_text.specs.declared.script.Script.{Script}
use Rattle.klsm_rows.specs.Rows.{Row}
use Rattle.klsm_text.specs.Script.{row_limit}
use Rattle.klsm_text.specs.Reading.{HasReadScript, reader_failed}
use Rattle.klsm_text.specs.ThreadRows.{AreAccepted, StandsAtRefusal, StopsReading, asked_of, asks}

-- what a kept row asks for
abbrev pub operation_in : ThreadRow → Operation
operation_in row = if row.is_deletion then Delete else Insert row.key row.load

-- what a thread is asked for by the rows that are kept for it
abbrev pub kept_for : List (List ThreadRow) → ℕ → List Operation
kept_for lists t = map operation_in (slice_index_or lists t [])

-- each thread's rows are kept for it
pub record AreKept (threads : ℕ) (rows : List Row) (lists : List (List ThreadRow)) : Type 0 where
  pub many : length lists ≡ threads
  pub each : (t : ℕ) → t < threads → kept_for lists t ≡ asked_of threads t rows

-- one row more is kept
pub record KeepsOne (request : Request) (lists lists' : List (List ThreadRow)) : Type 0 where
  pub many : length lists' ≡ length lists
  pub each : (t : ℕ) → t < length lists → kept_for lists' t ≡ kept_for lists t ++ asks t (Ok request)

-- the next row is kept, or there is a reason why not
abbrev pub KeepsOn : {R : Type 0} → (R → Option (List ℕ)) → ℕ → Option (List ℕ) → List Row
    → List (List ThreadRow) → Script R → Result (Unit {0}) Stop → Type 0
KeepsOn rem threads input rows lists script (Ok done) =
    (row : Row) × HasReadScript rem input (row ∷ rows) script × AreAccepted threads (row ∷ rows)
    × AreKept threads (row ∷ rows) lists
KeepsOn rem threads input rows lists script (Err why) =
    StopsReading threads input rows why × (why ≡ stop.AtEnd → AreKept threads rows lists)
    × (why ≡ stop.ReadFault → reader_failed script ≡ true)
    × StandsAtRefusal rem threads input script why

-- no further row is kept, and this is the number of the next one
pub record KeepsNoMore {R : Type 0} (rem : R → Option (List ℕ)) (threads : ℕ)
    (input : Option (List ℕ)) (lists : List (List ThreadRow)) (script : Script R) (number : ℕ)
    (why : Stop) : Type 0 where
  pub rows : List Row
  pub accepted : AreAccepted threads rows
  pub stops : StopsReading threads input rows why
  pub kept : why ≡ stop.AtEnd → AreKept threads rows lists
  pub fault : why ≡ stop.ReadFault → reader_failed script ≡ true
  pub stands : StandsAtRefusal rem threads input script why
  pub few : length rows ≤ row_limit
  pub number_is : number ≡ length rows + 1
