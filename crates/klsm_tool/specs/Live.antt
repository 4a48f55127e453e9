-- What `live_over` promises: the rows of a script run by threads.
use Rattle.std.specs.Prelude.{ℕ, ⊤, Bool, true, ◌≡◌, ◌+◌, ◌<◌, List, length, Option, Result, Ok, Err}
use Rattle.klsm_schedules.specs.declared.step.Entry.{Entry}
use Rattle.klsm_schedules.specs.Account.{account}
use Rattle.klsm_board.specs.Finishing.{AreListsAtEnd}
use Rattle.klsm_text.specs.declared.report.End.{End}
use Rattle.klsm_text.specs.declared.report.End.TheVariants as end
use Rattle.klsm_text.specs.declared.report.Report.{Report}
use Rattle.klsm_text.specs.declared.stop.Stop.{Stop}
use Rattle.klsm_text.specs.declared.stop.Stop.TheVariants as stop
use Rattle.klsm_text.specs.declared.stop.Closing.{Closing}
use Rattle.klsm_text.specs.declared.totals.Totals.{Totals}
use Rattle.klsm_rows.specs.Rows.{Row, AreAllRows}
use Rattle.klsm_text.specs.AnswerText.{closing_text}
use Rattle.klsm_text.specs.TotalsText.{totals_text}
use Rattle.klsm_tool.specs.Shown.{shown_in}
use Rattle.klsm_words.specs.declared.settings.ScriptSettings.{ScriptSettings}
use Rattle.klsm_tool.specs.Courses.{GoInTurn}
use Rattle.klsm_tool.specs.Crews.{board_sizes, steps_in}
use Rattle.klsm_text.specs.Reports.{GoesOrFails, end_of}
use Rattle.klsm_text.specs.ThreadRows.{AreAccepted, StopsReading, asked_of, insertion_rows}
use Rattle.klsm_tool.specs.MemberCalls.{AreAnswers}

-- all rows were run over a board of these settings: each thread's list answers its rows, one by one and
-- in order, by calls as the settings choose them, the lists are those of one world to which a schedule
-- leads, and the totals are those of their account
pub record RunsAll (settings : ScriptSettings) (input : Option (List ℕ)) (totals : Totals) : Type 0 where
  pub rows : List Row
  pub all : AreAllRows input rows
  pub accepted : AreAccepted settings.threads rows
  pub lists : List (List Entry)
  pub many : length lists ≡ settings.threads
  pub at_end : AreListsAtEnd (board_sizes settings) lists
  pub course : GoInTurn settings lists
  pub answers : (t : ℕ) → t < settings.threads
      → AreAnswers (asked_of settings.threads t rows) (shown_in (steps_in lists t))
  pub inserted_is : totals.inserted ≡ (account lists).inserted
  pub deleted_is : totals.deleted ≡ (account lists).deleted
  pub left_is : totals.left ≡ length (account lists).left
  pub insertions : totals.inserted ≡ insertion_rows settings.threads rows
  pub sum : totals.inserted ≡ totals.deleted + totals.left

-- the first row that is not accepted, or the one behind those that were read when reading failed
pub record IsNotRun (threads : ℕ) (input : Option (List ℕ)) (number : ℕ) (why : Stop) : Type 0 where
  pub rows : List Row
  pub accepted : AreAccepted threads rows
  pub stops : StopsReading threads input rows why
  pub number_is : number ≡ length rows + 1

-- why there are no totals. Want of room is no reason, as the shared part has room for all rows. `failed` says here
-- and below whether the reader has failed. Of want of memory nothing is said
abbrev pub HasNoTotals : Bool → ℕ → Option (List ℕ) → ℕ → Stop → Type 0
HasNoTotals failed threads input number stop.AtEnd = ⊥
HasNoTotals failed threads input number (stop.Refused why) =
    IsNotRun threads input number (stop.Refused why)
HasNoTotals failed threads input number stop.NoMemory = ⊤
HasNoTotals failed threads input number stop.ReadFault =
    IsNotRun threads input number stop.ReadFault × (failed ≡ true)
HasNoTotals failed threads input number stop.WriteFault = ⊥

-- how the run of a script ends
abbrev pub RunsScript : Bool → ScriptSettings → Option (List ℕ) → Result Totals Closing → Type 0
RunsScript failed settings input (Ok totals) = RunsAll settings input totals
RunsScript failed settings input (Err closing) =
    HasNoTotals failed settings.threads input closing.row closing.stop

abbrev pub outcome_text : Result Totals Closing → List ℕ
outcome_text (Ok totals) = totals_text totals
outcome_text (Err closing) = closing_text closing.row closing.most closing.bound closing.stop

abbrev pub outcome_end : Result Totals Closing → End
outcome_end (Ok totals) = end.Done
outcome_end (Err closing) = end_of closing.stop

-- the line of the outcome goes out, or the writer fails before its end
abbrev pub LivesBy : Bool → ScriptSettings → Option (List ℕ) → Option (List ℕ) → Option (List ℕ) → Report
    → Type 0
LivesBy failed settings input before after report =
    (outcome : Result Totals Closing) × RunsScript failed settings input outcome
    × GoesOrFails before after (outcome_text outcome) 0 report.written (outcome_end outcome)
    report.end

-- the same, where nothing is known of the reader
abbrev pub Lives : ScriptSettings → Option (List ℕ) → Option (List ℕ) → Option (List ℕ) → Report → Type 0
Lives settings input before after report =
    (failed : Bool) × LivesBy failed settings input before after report
