-- What a replay promises.
use Rattle.std.specs.Prelude.{ℕ, ◌≡◌, ◌*◌, ◌<◌, ◌≤◌, ◌≢◌, ◌⊎◌, List, [], ◌∷◌, length, take, Option}
use Rattle.std.specs.Prelude.{Ok, Err, codes}
use Rattle.std.specs.Io.KnownBytes.{Appends}
use Rattle.klsm_schedules.specs.declared.step.Entry.{Entry}
use Rattle.klsm_board.specs.Finishing.{AreListsAtEnd}
use Rattle.klsm_text.specs.declared.answer.Line.{Line}
use Rattle.klsm_text.specs.declared.request.Request.{Request}
use Rattle.klsm_text.specs.declared.report.End.TheVariants as end
use Rattle.klsm_text.specs.declared.report.Report.{Report}
use Rattle.klsm_text.specs.declared.stop.Stop.{Stop}
use Rattle.klsm_text.specs.declared.stop.Stop.TheVariants as stop
use Rattle.klsm_rows.specs.Rows.{Row, AreFirstRows, AreAllRows}
use Rattle.klsm_text.specs.Script.{request_after}
use Rattle.klsm_text.specs.Reports.{GoesOrFails, end_of}
use Rattle.klsm_text.specs.AnswerText.{greatest_skip, text_of}
use Rattle.klsm_words.specs.declared.settings.ScriptSettings.{ScriptSettings}
use Rattle.klsm_tool.specs.Courses.{GoInOneHand}
use Rattle.klsm_tool.specs.Crews.{board_sizes}
use Rattle.klsm_tool.specs.Shown.{IsFew, Show}
use Rattle.klsm_tool.specs.MemberCalls.{IsAnswerTo}

-- each row is answered by its line: rows and lines, the latest first
abbrev pub Answered : ℕ → List Row → List Line → Type 0
Answered threads [] [] = Unit {0}
Answered threads [] (line ∷ lines) = ⊥
Answered threads (row ∷ rows) [] = ⊥
Answered threads (row ∷ rows) (line ∷ lines) =
    ((request : Request) × (request_after threads rows row ≡ Ok request)
    × (line.thread ≡ request.thread) × IsAnswerTo request.operation line.answer)
    × Answered threads rows lines

-- why no further row of the input is answered. Want of room is no reason: the shared part always has room
abbrev pub Stopped : ℕ → Option (List ℕ) → List Row → Stop → Type 0
Stopped threads input rows stop.AtEnd = AreAllRows input rows
Stopped threads input rows (stop.Refused why) =
    (row : Row) × AreFirstRows input (row ∷ rows) × (request_after threads rows row ≡ Err why)
Stopped threads input rows stop.NoMemory = AreFirstRows input rows
Stopped threads input rows stop.ReadFault = AreFirstRows input rows
Stopped threads input rows stop.WriteFault = AreFirstRows input rows

-- the first `written` bytes of a text went out, and all of it unless the writer failed
pub record GoesOut (before after : Option (List ℕ)) (text : List ℕ) (why : Stop) (report : Report)
    : Type 0 where
  pub appended : Appends before after (take report.written text)
  pub within : report.written ≤ length text
  pub cut : report.end ≡ end.WriteFault → report.written < length text
  pub whole : report.end ≢ end.WriteFault
      → (report.written ≡ length text) × (report.end ≡ end_of why)

-- The answer text of the rows that were read goes out, and its answers are those of these lists. Each number
-- behind `skip` is few, and so is the greatest.
pub record Replays (threads k : ℕ) (lists : List (List Entry)) (input before after : Option (List ℕ))
    (report : Report) : Type 0 where
  pub rows : List Row
  pub lines : List Line
  pub why : Stop
  pub answered : Answered threads rows lines
  pub shown : Show threads k lists lines
  pub greatest : IsFew threads k (greatest_skip lines)
  pub stopped : Stopped threads input rows why
  pub goes_out : GoesOut before after (text_of (threads * k) lines why) why report

-- the same, and then, where all rows are answered and a growth was refused in the end, one line more
abbrev pub ReplaysToTheEnd : ℕ → ℕ → List (List Entry) → Option (List ℕ) → Option (List ℕ)
    → Option (List ℕ) → Report → Type 0
ReplaysToTheEnd threads k lists input before after report =
    Replays threads k lists input before after report
    ⊎ ((middle : Option (List ℕ)) × (done : Report)
    × Replays threads k lists input before middle done × (done.end ≡ end.Done)
    × GoesOrFails middle after (codes "no memory\n") done.written report.written end.NoMemory
    report.end)

-- the lists are those of a board of its own, of these settings: all of them are those of one schedule of
-- legal steps, and of calls as the settings choose them, and where all is done the board has ended with them
pub record ReplaysAlone (settings : ScriptSettings) (input before after : Option (List ℕ)) (report : Report)
    : Type 0 where
  pub lists : List (List Entry)
  pub run : ∥ AreListsAtEnd (board_sizes settings) lists ∥₁
  pub course : GoInOneHand settings lists
  pub replays : ReplaysToTheEnd settings.threads settings.k lists input before after report
  pub at_end : report.end ≡ end.Done → AreListsAtEnd (board_sizes settings) lists
