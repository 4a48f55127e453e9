-- What a row of a script asks for, and the first thing that is wrong with it.
use Rattle.std.specs.Prelude.{ℕ, List, [], ◌∷◌, length, Option, Some, None, Result, Ok, Err, codes}
use Rattle.std.specs.Prelude.{if◌then◌else◌, nat_lt, ◌==◌}
use Rattle.std.specs.Str.{bytes_eq}
use Rattle.klsm_text.specs.declared.request.Request.{Request}
use Rattle.klsm_text.specs.declared.request.Operation.{Operation}
use Rattle.klsm_text.specs.declared.request.Operation.TheVariants.{Insert, Delete}
use Rattle.klsm_text.specs.declared.request.Refusal.{Refusal}
use Rattle.klsm_text.specs.declared.request.Refusal.TheVariants as refusal
use Rattle.klsm_rows.specs.Number.{number_of}
use Rattle.klsm_rows.specs.Rows.{Row}

-- an insertion's key and load
abbrev pub insertion_of : Option ℕ → Option ℕ → Result Operation Refusal
insertion_of None load = Err refusal.Key
insertion_of (Some key) None = Err refusal.Load
insertion_of (Some key) (Some load) = Ok (Insert key load)

-- a deletion's last two fields are empty
abbrev pub deletion_of : List ℕ → List ℕ → Result Operation Refusal
deletion_of (c ∷ cs) load = Err refusal.Key
deletion_of [] (c ∷ cs) = Err refusal.Load
deletion_of [] [] = Ok Delete

abbrev pub operation_of : List ℕ → List ℕ → List ℕ → Result Operation Refusal
operation_of word key load =
    if bytes_eq word (codes "i") then insertion_of (number_of key) (number_of load)
    else (if bytes_eq word (codes "d") then deletion_of key load else Err refusal.Operation)

-- the thread that is asked, and what it is asked for
abbrev pub asked : ℕ → Result Operation Refusal → Result Request Refusal
asked thread (Ok operation) = Ok (record { thread = thread; operation = operation })
asked thread (Err why) = Err why

-- of the threads below a number
abbrev pub asked_below : ℕ → Option ℕ → Result Operation Refusal → Result Request Refusal
asked_below threads None operation = Err refusal.Thread
asked_below threads (Some thread) operation =
    if nat_lt thread threads then asked thread operation else Err refusal.Thread

-- what a row asks for
abbrev pub request_of : ℕ → Row → Result Request Refusal
request_of threads (thread ∷ operation ∷ key ∷ load ∷ []) =
    asked_below threads (number_of thread) (operation_of operation key load)
request_of threads row = Err refusal.Fields

-- the most rows of a script
abbrev pub row_limit : ℕ
row_limit = 1000000

-- what a row asks for after these rows, of which there may be too many
abbrev pub request_after : ℕ → List Row → Row → Result Request Refusal
request_after threads earlier row =
    if length earlier == row_limit then Err refusal.Rows else request_of threads row
