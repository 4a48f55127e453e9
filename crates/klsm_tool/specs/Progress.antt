-- How far a replay has come. Rows and lines are listed the latest first.
use Rattle.std.specs.Prelude.{ℕ, Bool, true, ◌≡◌, ◌≢◌, ◌+◌, ◌<◌, List, ◌++◌, length, take, Option}
use Rattle.std.specs.Io.KnownBytes.{Appends}
use Rattle.klsm_run.specs.declared.item.Item.{Item}
use Rattle.klsm_schedules.specs.declared.step.Entry.{Entry}
use Rattle.klsm_run.specs.Content.{sorted}
use Rattle.klsm_text.specs.declared.answer.Line.{Line}
use Rattle.klsm_text.specs.declared.output.Output.{Output}
use Rattle.klsm_text.specs.declared.stop.Stop.{Stop}
use Rattle.klsm_text.specs.declared.stop.Stop.TheVariants as stop
use Rattle.klsm_text.specs.declared.script.Script.{Script}
use Rattle.klsm_rows.specs.Rows.{Row}
use Rattle.klsm_text.specs.Reading.{HasReadScript}
use Rattle.klsm_text.specs.AnswerText.{live_by, lines_text, greatest_skip}
use Rattle.klsm_tool.specs.Replay.{Answered, Stopped}
use Rattle.klsm_tool.specs.Shown.{Show}
use Rattle.klsm_text.specs.Output.{pending}

-- all lines went out, but for what is pending
pub record IsTold (before now : Option (List ℕ)) (lines : List Line) (output : Output) : Type 0 where
  pub gone : List ℕ
  pub appended : Appends before now gone
  pub count : output.written ≡ length gone
  pub all : gone ++ pending output ≡ lines_text lines

-- a front of the lines went out
pub record IsCutOff (before now : Option (List ℕ)) (lines : List Line) (written : ℕ) : Type 0 where
  pub appended : Appends before now (take written (lines_text lines))
  pub short : written < length (lines_text lines)

-- the rows that were read are answered, and what is kept beside the board is that of their lines
pub record StandsAfter {R : Type 0} (rem : R → Option (List ℕ)) (threads k : ℕ)
    (lists : List (List Entry)) (input : Option (List ℕ)) (rows : List Row) (lines : List Line)
    (script : Script R) (items : List Item) (most : ℕ) : Type 0 where
  pub answered : Answered threads rows lines
  pub shown : Show threads k lists lines
  pub read : HasReadScript rem input rows script
  pub items_are : sorted items ≡ sorted (live_by lines)
  pub most_is : most ≡ greatest_skip lines

-- what went out where no further row is answered
abbrev pub IsToldUntil : Stop → Option (List ℕ) → Option (List ℕ) → List Line → Output → Type 0
IsToldUntil stop.WriteFault before now lines output = IsCutOff before now lines output.written
IsToldUntil stop.AtEnd before now lines output = IsTold before now lines output
IsToldUntil (stop.Refused why) before now lines output = IsTold before now lines output
IsToldUntil stop.NoMemory before now lines output = IsTold before now lines output
IsToldUntil stop.ReadFault before now lines output = IsTold before now lines output

-- the next row is not answered, and nothing has failed that concerns the writer. `failed` says here and
-- below whether the reader has
pub record StopsBefore (failed : Bool) (threads k : ℕ) (lists : List (List Entry))
    (input : Option (List ℕ)) (rows : List Row) (lines : List Line) (most : ℕ) (why : Stop) : Type 0 where
  pub stopped : Stopped threads input rows why
  pub shown : Show threads k lists lines
  pub most_is : most ≡ greatest_skip lines
  pub other : why ≢ stop.WriteFault
  pub fault : why ≡ stop.ReadFault → failed ≡ true

-- no further row is answered, and these are the number of the row that is not, unless the writer
-- failed, and the greatest skip, where all rows are answered
pub record HasStopped (failed : Bool) (threads k : ℕ) (lists : List (List Entry))
    (input before now : Option (List ℕ)) (number most : ℕ) (output : Output) (why : Stop) : Type 0 where
  pub rows : List Row
  pub lines : List Line
  pub answered : Answered threads rows lines
  pub shown : Show threads k lists lines
  pub stopped : Stopped threads input rows why
  pub told : IsToldUntil why before now lines output
  pub number_is : why ≢ stop.WriteFault → number ≡ length lines + 1
  pub most_is : why ≡ stop.AtEnd → most ≡ greatest_skip lines
  pub fault : why ≡ stop.ReadFault → failed ≡ true
