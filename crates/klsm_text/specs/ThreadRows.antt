-- The rows of a script that is read whole, and what each of its threads is asked for. Rows are
-- listed the latest first, and what a thread is asked for the first one first.
use Rattle.std.specs.Prelude.{ℕ, ◌≡◌, ◌+◌, ◌==◌, if◌then◌else◌, List, [], ◌∷◌, ◌++◌}
use Rattle.std.specs.Prelude.{Option, Result, Ok, Err}
use Rattle.klsm_text.specs.declared.request.Operation.{Operation}
use Rattle.klsm_text.specs.declared.request.Operation.TheVariants.{Insert, Delete}
use Rattle.klsm_text.specs.declared.request.Refusal.{Refusal}
use Rattle.klsm_text.specs.declared.request.Request.{Request}
use Rattle.klsm_text.specs.declared.stop.Stop.{Stop}
use Rattle.klsm_text.specs.declared.stop.Stop.TheVariants as stop
use Rattle.klsm_text.specs.declared.script.Script.{Script}
use Rattle.klsm_rows.specs.Rows.{Row, AreFirstRows, AreAllRows}
use Rattle.klsm_text.specs.Reading.{HasReadScript}
use Rattle.klsm_text.specs.Script.{request_after, request_of}

-- what a thread is asked for by one row, where it is this thread's
abbrev pub asks : ℕ → Result Request Refusal → List Operation
asks t (Ok request) = if request.thread == t then request.operation ∷ [] else []
asks t (Err why) = []

-- by all rows
abbrev pub asked_of : ℕ → ℕ → List Row → List Operation
asked_of threads t [] = []
asked_of threads t (row ∷ earlier) =
    asked_of threads t earlier ++ asks t (request_of threads row)

-- no row is refused
abbrev pub AreAccepted : ℕ → List Row → Type 0
AreAccepted threads [] = Unit {0}
AreAccepted threads (row ∷ earlier) =
    ((request : Request) × (request_after threads earlier row ≡ Ok request))
    × AreAccepted threads earlier

-- why no further row is read: the script is at its end, or its next row is refused, or a growth was,
-- or reading failed
abbrev pub StopsReading : ℕ → Option (List ℕ) → List Row → Stop → Type 0
StopsReading threads input rows stop.AtEnd = AreAllRows input rows
StopsReading threads input rows (stop.Refused why) =
    (row : Row) × AreFirstRows input (row ∷ rows) × (request_after threads rows row ≡ Err why)
StopsReading threads input rows stop.NoMemory = AreFirstRows input rows
StopsReading threads input rows stop.ReadFault = AreFirstRows input rows
StopsReading threads input rows stop.WriteFault = ⊥

-- the rows that were read are accepted, but for the latest one, which is refused: behind it none was
-- read
pub record HasReadToRefusal {R : Type 0} (rem : R → Option (List ℕ)) (threads : ℕ)
    (input : Option (List ℕ)) (script : Script R) : Type 0 where
  pub rows : List Row
  pub row : Row
  pub why : Refusal
  pub accepted : AreAccepted threads rows
  pub refused : request_after threads rows row ≡ Err why
  pub read : HasReadScript rem input (row ∷ rows) script

-- where a script stands whose reading stopped so
abbrev pub StandsAtRefusal : {R : Type 0} → (R → Option (List ℕ)) → ℕ → Option (List ℕ) → Script R
    → Stop → Type 0
StandsAtRefusal rem threads input script why =
    (refusal : Refusal) → why ≡ stop.Refused refusal → HasReadToRefusal rem threads input script

-- whether a row inserts
abbrev pub insertions_at : Operation → ℕ
insertions_at (Insert key load) = 1
insertions_at Delete = 0

-- how many of these rows insert
abbrev pub insertions_in : List Operation → ℕ
insertions_in [] = 0
insertions_in (asked ∷ more) = insertions_at asked + insertions_in more

abbrev pub insertions_of : Result Request Refusal → ℕ
insertions_of (Ok request) = insertions_at request.operation
insertions_of (Err why) = 0

-- how many of all rows do
abbrev pub insertion_rows : ℕ → List Row → ℕ
insertion_rows threads [] = 0
insertion_rows threads (row ∷ earlier) =
    insertions_of (request_of threads row) + insertion_rows threads earlier
