-- What putting a line does to what has gone out and to what is pending.
use Rattle.std.specs.Prelude.{ℕ, ◌≡◌, ◌≢◌, ◌+◌, ◌⊎◌, List, [], ◌++◌, length, Option}
use Rattle.std.specs.Prelude.{Result, Ok, Err}
use Rattle.std.specs.Io.KnownBytes.{Appends, Keeps}
use Rattle.klsm_text.specs.declared.output.Output.{Output}
use Rattle.klsm_text.specs.declared.report.End.TheVariants as end
use Rattle.klsm_text.specs.declared.report.Report.{Report}
use Rattle.klsm_text.specs.declared.stop.Stop.{Stop}
use Rattle.klsm_text.specs.declared.stop.Stop.TheVariants as stop
use Rattle.klsm_text.specs.declared.stop.Closing.{Closing}
use Rattle.klsm_text.specs.AnswerText.{closing_text}
use Rattle.klsm_text.specs.Reports.{end_of, GoesOrFails, IsCut}

-- the text that was put and has not gone out yet
abbrev pub pending : Output → List ℕ
pending output = output.buffer.items

-- how many bytes were put, gone out or not
abbrev pub put_count : Output → ℕ
put_count output = output.written + length (pending output)

-- of what was pending and the text, a front went out, and the rest is pending
abbrev pub AddsText : Option (List ℕ) → Option (List ℕ) → List ℕ → Output → Output → Type 0
AddsText before after text output output' =
    (gone : List ℕ) × Appends before after gone
    × (output'.written ≡ output.written + length gone)
    × (gone ++ pending output' ≡ pending output ++ text)

-- the text was added; or the writer failed before its end, and nothing is pending
abbrev pub PutsText : Option (List ℕ) → Option (List ℕ) → List ℕ → Output → Output
    → Result (Unit {0}) Stop → Type 0
PutsText before after text output output' (Ok done) = AddsText before after text output output'
PutsText before after text output output' (Err why) =
    (why ≡ stop.WriteFault)
    × IsCut before after (pending output ++ text) output.written output'.written
    × (pending output' ≡ [])

-- what was pending went out, or the writer failed before its end; nothing is pending
abbrev pub FlushesText : Option (List ℕ) → Option (List ℕ) → Output → Output → Result (Unit {0}) Stop
    → Type 0
FlushesText before after output output' (Ok done) =
    Appends before after (pending output)
    × (output'.written ≡ put_count output) × (pending output' ≡ [])
FlushesText before after output output' (Err why) =
    (why ≡ stop.WriteFault) × IsCut before after (pending output) output.written output'.written
    × (pending output' ≡ [])

-- after a write fault nothing more goes out; else what was pending does, and then the last line
abbrev pub Closes : Option (List ℕ) → Option (List ℕ) → Closing → Output → Report → Type 0
Closes before after closing output report =
    ((closing.stop ≡ stop.WriteFault) × (report.end ≡ end.WriteFault) × Keeps before after
    × (report.written ≡ output.written))
    ⊎ ((closing.stop ≢ stop.WriteFault)
    × (let last = closing_text closing.row closing.most closing.bound closing.stop in
    GoesOrFails before after (pending output ++ last) output.written report.written
    (end_of closing.stop) report.end))
