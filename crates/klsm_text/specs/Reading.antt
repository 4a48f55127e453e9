-- How far the reading of a script has come. Rows are listed the latest first.
use Rattle.std.specs.Prelude.{ℕ, Bool, true, ◌≡◌, List, Option}
use Rattle.csv.specs.Reading.{has_failed}
use Rattle.klsm_rows.specs.Rows.{Row, AreFirstRows, AreAllRows, HasRead}
use Rattle.klsm_text.specs.declared.script.Script.{Script}
use Rattle.klsm_text.specs.declared.stop.Stop.{Stop}
use Rattle.klsm_text.specs.declared.stop.Stop.TheVariants as stop
use Rattle.klsm_text.specs.declared.row_ends.RowEnds.{RowEnds}

-- what is known of the bytes that such a reader has left: that of the reader within
abbrev pub left_within : {R : Type 0} → (R → Option (List ℕ)) → RowEnds R → Option (List ℕ)
left_within rem ends = rem ends.inner

-- the rows are the first of the input, and the script stands behind them
abbrev pub HasReadScript : {R : Type 0} → (R → Option (List ℕ)) → Option (List ℕ) → List Row → Script R
    → Type 0
HasReadScript rem input rows script = HasRead (left_within rem) input rows script.rows

-- whether the reader of the script has failed
abbrev pub reader_failed : {R : Type 0} → Script R → Bool
reader_failed script = has_failed script.rows

-- why no row could be read: the input is at its end, or the reader has failed
abbrev pub ReadStops : Bool → Option (List ℕ) → List Row → Stop → Type 0
ReadStops failed input rows stop.AtEnd = AreAllRows input rows
ReadStops failed input rows stop.NoMemory = AreFirstRows input rows × (failed ≡ true)
ReadStops failed input rows stop.ReadFault = AreFirstRows input rows × (failed ≡ true)
ReadStops failed input rows why = ⊥
