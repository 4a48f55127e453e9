-- What writing a line does to a replay, and where a replay stops.
use Rattle.std.proofs.Common.{◌≡◌, ◌≢◌, ℕ, Bool, ◌+◌, List, [], ◌∷◌, ◌++◌, length, take, Option, Result, Ok, Err, IfErr, refl, sym, ap, ◌∙◌, subst, arith}
use Rattle.std.specs.Result.{MatchResult}
use Rattle.std.specs.Io.KnownBytes.{Appends}
use Rattle.std.proofs.lemmas.List.{append-nil, append_assoc, length-append}
use Rattle.klsm_run.specs.declared.item.Item.{Item}
use Rattle.klsm_schedules.specs.declared.step.Entry.{Entry}
use Rattle.klsm_text.specs.declared.answer.Line.{Line}
use Rattle.klsm_text.specs.declared.answer.Printed.{Printed}
use Rattle.klsm_text.specs.declared.output.Output.{Output}
use Rattle.klsm_text.specs.declared.stop.Stop.{Stop}
use Rattle.klsm_text.specs.declared.stop.Stop.TheVariants as stop
use Rattle.klsm_text.specs.declared.script.Script.{Script}
use Rattle.klsm_rows.specs.Rows.{Row}
use Rattle.klsm_text.specs.AnswerText.{answer_text, lines_text, live_by, skip_of}
use Rattle.klsm_tool.specs.Shown.{Show}
use Rattle.klsm_text.specs.Output.{AddsText, FlushesText, PutsText, pending}
use Rattle.klsm_text.specs.Reading.{HasReadScript}
use Rattle.klsm_text.specs.ThreadRows.{StandsAtRefusal}
use Rattle.klsm_tool.specs.Progress.{HasStopped, IsCutOff, IsTold, IsToldUntil, StandsAfter, StopsBefore}
use Rattle.klsm_tool.specs.Replay.{Answered}
use Rattle.klsm_text.specs.Reports.{IsCut}
use Rattle.klsm_text.proofs.ScriptLemmas.{first_read}
use Rattle.klsm_tool.proofs.ReplayLemmas.{cut_stands}
use Rattle.klsm_text.proofs.OutputLemmas.{appends_more, appends_nothing, cut_after}

-- nothing is told yet
pub nothing_told : (before : Option (List ℕ)) (output : Output) → output.written ≡ 0 → pending output ≡ [] → IsTold before before [] output
nothing_told before output none empty = record { gone = []; appended = appends_nothing before; count = none; all = empty }

-- a line that could not be put is not refused
pub put_stands : {R : Type 0} (rem : R → Option (List ℕ)) (threads : ℕ) (input before after : Option (List ℕ)) (script : Script R) (text : List ℕ) (output output' : Output) (result : Result (Unit {0}) Stop) → PutsText before after text output output' result → IfErr result (StandsAtRefusal rem threads input script)
put_stands rem threads input before after script text output output' (Ok done) puts = tt
put_stands rem threads input before after script text output output' (Err why) puts = cut_stands rem threads input script why puts.0

-- as many rows as lines
answered_lengths : (threads : ℕ) (rows : List Row) (lines : List Line) → Answered threads rows lines → length rows ≡ length lines
answered_lengths threads [] [] h = refl
answered_lengths threads [] (line ∷ lines) h = absurd h
answered_lengths threads (row ∷ rows) [] h = absurd h
answered_lengths threads (row ∷ rows) (line ∷ lines) h = omega (arith, answered_lengths threads rows lines h.1)

told_until : (why : Stop) (before now : Option (List ℕ)) (lines : List Line) (output : Output) → why ≢ stop.WriteFault → IsTold before now lines output → IsToldUntil why before now lines output
told_until stop.AtEnd before now lines output other told = told
told_until (stop.Refused why) before now lines output other told = told
told_until stop.NoMemory before now lines output other told = told
told_until stop.ReadFault before now lines output other told = told
told_until stop.WriteFault before now lines output other told = absurd (other refl)

-- no further row is answered, and all lines are told
pub stops_told : (failed : Bool) (threads k : ℕ) (lists : List (List Entry)) (input before now : Option (List ℕ)) (rows : List Row) (lines : List Line) (most : ℕ) (output : Output) (why : Stop)
    → Answered threads rows lines → StopsBefore failed threads k lists input rows lines most why → IsTold before now lines output → HasStopped failed threads k lists input before now (length rows + 1) most output why
stops_told failed threads k lists input before now rows lines most output why answered stops told = record {
  rows = rows;
  lines = lines;
  answered = answered;
  shown = stops.shown;
  stopped = stops.stopped;
  told = told_until why before now lines output stops.other told;
  number_is = λ _. omega (arith, answered_lengths threads rows lines answered);
  most_is = λ _. stops.most_is;
  fault = stops.fault;
}

-- no further row is answered, since the lines were cut off
pub stops_cut : {R : Type 0} (rem : R → Option (List ℕ)) (failed : Bool) (threads k : ℕ) (lists : List (List Entry)) (input before now : Option (List ℕ)) (rows : List Row) (lines : List Line) (reader : Script R) (number most : ℕ) (output : Output)
    → Answered threads rows lines → Show threads k lists lines → HasReadScript rem input rows reader → IsCutOff before now lines output.written → HasStopped failed threads k lists input before now number most output stop.WriteFault
stops_cut rem failed threads k lists input before now rows lines reader number most output answered shown read cut = record {
  rows = rows;
  lines = lines;
  answered = answered;
  shown = shown;
  stopped = first_read rem input rows reader read;
  told = cut;
  number_is = λ other. absurd (other refl);
  most_is = λ e. cc;
  fault = λ e. absurd (let bad : stop.WriteFault ≡ stop.ReadFault = e in cc);
}

-- the next line's text
next_text : (printed : Printed) (lines : List Line) → printed.skip ≡ skip_of (live_by lines) printed.line.answer → lines_text lines ++ answer_text printed.line.thread printed.line.answer printed.skip ≡ lines_text (printed.line ∷ lines)
next_text printed lines is = ap (λ skip. lines_text lines ++ answer_text printed.line.thread printed.line.answer skip) is

told_next : (before now after : Option (List ℕ)) (lines lines' : List Line) (text : List ℕ) (output output' : Output) → lines_text lines ++ text ≡ lines_text lines' → IsTold before now lines output → AddsText now after text output output' → IsTold before after lines' output'
told_next before now after lines lines' text output output' next told adds = record {
  gone = told.gone ++ adds.0;
  appended = appends_more before now after told.gone adds.0 told.appended adds.1;
  count = omega (arith, told.count, adds.2, length-append told.gone adds.0);
  all = append_assoc told.gone adds.0 (pending output') ∙ (ap (λ rest. told.gone ++ rest) adds.3 ∙ (sym (append_assoc told.gone (pending output) text) ∙ (ap (λ front. front ++ text) told.all ∙ next)));
}

cut_next : (before now after : Option (List ℕ)) (lines lines' : List Line) (text : List ℕ) (output : Output) (written : ℕ) → lines_text lines ++ text ≡ lines_text lines' → IsTold before now lines output → IsCut now after (pending output ++ text) output.written written → IsCutOff before after lines' written
cut_next before now after lines lines' text output written next told cut =
    let all : told.gone ++ (pending output ++ text) ≡ lines_text lines' = sym (append_assoc told.gone (pending output) text) ∙ (ap (λ front. front ++ text) told.all ∙ next) in
    let whole = cut_after before now after told.gone (pending output ++ text) (lines_text lines') 0 output.written written told.appended (omega (arith, told.count)) all cut in
    let out : whole.0 ≡ written = omega (arith, whole.3) in
    record {
      appended = subst (λ (n : ℕ). Appends before after (take n (lines_text lines'))) out whole.2;
      short = omega (arith, out, whole.1);
    }

-- what is pending is sent
pub told_flushed : (before now after : Option (List ℕ)) (lines : List Line) (output output' : Output) (result : Result (Unit {0}) Stop) → IsTold before now lines output → FlushesText now after output output' result
    → MatchResult result (λ _. IsTold before after lines output') (λ why. (why ≡ stop.WriteFault) × IsCutOff before after lines output'.written)
told_flushed before now after lines output output' (Ok done) told sent =
    let same : pending output ++ pending output' ≡ pending output ++ [] = ap (λ rest. pending output ++ rest) sent.2 in
    told_next before now after lines lines [] output output' (append-nil (lines_text lines)) told (pending output, sent.0, sent.1, same)
told_flushed before now after lines output output' (Err why) told failed =
    (failed.0, cut_next before now after lines lines [] output output'.written (append-nil (lines_text lines)) told (subst (λ (text : List ℕ). IsCut now after text output.written output'.written) (sym (append-nil (pending output))) failed.1))

-- the line of a row that was answered is put
pub line_put : {R : Type 0} (rem : R → Option (List ℕ)) (failed : Bool) (threads k : ℕ) (lists lists' : List (List Entry)) (input before now after : Option (List ℕ)) (rows : List Row) (lines : List Line) (a b : Script R) (items items' : List Item) (most most' : ℕ) (output output' : Output) (row : Row) (printed : Printed) (result : Result (Unit {0}) Stop)
    → StandsAfter rem threads k lists input rows lines a items most → StandsAfter rem threads k lists' input (row ∷ rows) (printed.line ∷ lines) b items' most' → printed.skip ≡ skip_of (live_by lines) printed.line.answer → IsTold before now lines output
    → PutsText now after (answer_text printed.line.thread printed.line.answer printed.skip) output output' result
    → MatchResult result (λ _. (row : Row) × (line : Line) × StandsAfter rem threads k lists' input (row ∷ rows) (line ∷ lines) b items' most' × IsTold before after (line ∷ lines) output')
    (λ why. HasStopped failed threads k lists' input before after (length rows + 1) most' output' why)
line_put rem failed threads k lists lists' input before now after rows lines a b items items' most most' output output' row printed (Ok done) was is skip told puts =
    (row, printed.line, is, told_next before now after lines (printed.line ∷ lines) _ output output' (next_text printed lines skip) told puts)
line_put rem failed threads k lists lists' input before now after rows lines a b items items' most most' output output' row printed (Err why) was is skip told puts =
    subst (HasStopped failed threads k lists' input before after (length rows + 1) most' output') (sym puts.0)
    (stops_cut rem failed threads k lists' input before after (row ∷ rows) (printed.line ∷ lines) b _ most' output' is.answered is.shown is.read (cut_next before now after lines (printed.line ∷ lines) _ output output'.written (next_text printed lines skip) told puts.1))
