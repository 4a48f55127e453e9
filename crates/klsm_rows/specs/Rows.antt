-- The rows of a text are its records, as the library csv reads them. Rows are listed the latest
-- first.
use Rattle.std.specs.Prelude.{ℕ, ⊤, ◌≡◌, true, List, reverse, Option, Some, None}
use Rattle.csv.specs.declared.parser.State.{State}
use Rattle.csv.specs.declared.parser.State.TheVariants as state
use Rattle.csv.specs.declared.reader.Reader.{Reader}
use Rattle.csv.specs.declared.reader.Trim.TheVariants as trim
use Rattle.csv.specs.Reading.{AreRecords, Reached, Ready, default_config, is_flexible, reader_config, reader_state, reader_trim, source_of, strip_bom}

-- a row is a record's fields
abbrev pub Row : Type 0
Row = List (List ℕ)

-- the first records of a text
abbrev pub AreFirstRows : Option (List ℕ) → List Row → Type 0
AreFirstRows None rows = ⊤
AreFirstRows (Some text) rows =
    (after : State) × (rest : List ℕ)
    × Reached default_config state.StartRecord (strip_bom text) (reverse rows) after rest

-- all the records of a text
abbrev pub AreAllRows : Option (List ℕ) → List Row → Type 0
AreAllRows None rows = ⊤
AreAllRows (Some text) rows =
    AreRecords default_config state.StartRecord (strip_bom text) (reverse rows)

-- what is known of the bytes that a reader of rows has left
abbrev pub HasLeft : {R : Type 0} → (R → Option (List ℕ)) → Option (List ℕ) → List Row → Reader R
    → Type 0
HasLeft rem None rows reader = ⊤
HasLeft rem (Some text) rows reader =
    (rest : List ℕ) × (source_of rem reader ≡ Some rest)
    × Reached default_config state.StartRecord (strip_bom text) (reverse rows) (reader_state reader)
    rest

-- the rows are the first of the input, and the reader stands behind them
pub record HasRead {R : Type 0} (rem : R → Option (List ℕ)) (input : Option (List ℕ))
    (rows : List Row) (reader : Reader R) : Type 0 where
  pub config : reader_config reader ≡ default_config
  pub trim : reader_trim reader ≡ trim.None
  pub flexible : is_flexible reader ≡ true
  pub ready : Ready reader
  pub left : HasLeft rem input rows reader
