-- What the last line makes of a replay that has stopped.
use Rattle.std.proofs.Common.{◌≡◌, ◌≢◌, ℕ, Bool, true, ◌+◌, ◌*◌, ◌<◌, ◌≤◌, max, inl, inr, List, [], ◌∷◌, ◌++◌, length, take, Option, Some, None, refl, sym, ap, ◌∙◌, subst, arith, codes, reverse}
use Rattle.std.specs.Io.KnownBytes.{Appends, Keeps}
use Rattle.std.proofs.lemmas.List.{append-nil, append_assoc, take_all, reverse-append}
use Rattle.csv.specs.declared.parser.State.{State}
use Rattle.csv.specs.declared.parser.State.TheVariants as state
use Rattle.csv.specs.declared.parser.Config.{Config}
use Rattle.csv.specs.Reading.{Reached, default_config, strip_bom}
use Rattle.klsm_schedules.specs.declared.step.Entry.{Entry}
use Rattle.klsm_text.specs.declared.answer.Line.{Line}
use Rattle.klsm_text.specs.declared.output.Output.{Output}
use Rattle.klsm_text.specs.declared.report.End.TheVariants as end
use Rattle.klsm_text.specs.declared.report.Report.{Report}
use Rattle.klsm_text.specs.declared.request.Refusal.{Refusal}
use Rattle.klsm_text.specs.declared.stop.Closing.{Closing}
use Rattle.klsm_text.specs.declared.stop.Stop.{Stop}
use Rattle.klsm_text.specs.declared.stop.Stop.TheVariants as stop
use Rattle.klsm_rows.specs.Rows.{Row, AreFirstRows, AreAllRows}
use Rattle.klsm_text.specs.AnswerText.{closing_text, greatest_skip, lines_text, live_by, skip_of}
use Rattle.klsm_text.specs.Output.{Closes, pending}
use Rattle.klsm_tool.specs.Progress.{HasStopped, IsCutOff, IsTold, IsToldUntil}
use Rattle.klsm_tool.specs.Shown.{IsFew, Show, SkipFew}
use Rattle.klsm_tool.specs.Replay.{Answered, GoesOut, Replays, Stopped}
use Rattle.klsm_text.specs.Reports.{GoesOrFails, end_of}
use Rattle.klsm_text.proofs.OutputLemmas.{appends_more, appends_none, goes_after}

-- of several skips that are few the greatest is
greatest_few : (threads k : ℕ) (lines : List Line) → SkipFew threads k lines → IsFew threads k (greatest_skip lines)
greatest_few threads k [] few = (omega arith, λ one. refl)
greatest_few threads k (line ∷ earlier) few =
    let rest = greatest_few threads k earlier few.1 in let n : ℕ = threads * k in
    let a : ℕ = greatest_skip earlier in let b : ℕ = skip_of (live_by earlier) line.answer in
    let a_few : a ≤ n = rest.0 in let b_few : b ≤ n = few.0.0 in
    let both : max a b ≤ n = omega (arith, a_few, b_few) in
    (both, λ one. let a_none : a ≡ 0 = rest.1 one in let b_none : b ≡ 0 = few.0.1 one in omega (arith, a_none, b_none))

reached_front : (config : Config) (from after : State) (text rest : List ℕ) (rows : List Row) (row : Row) → Reached config from text (rows ++ row ∷ []) after rest → (between : State) × (left : List ℕ) × Reached config from text rows between left
unfolding Reached
reached_front config from after text rest [] row h = (from, text, (refl, refl))
reached_front config from after text rest (r ∷ rows) row h =
    let later = reached_front config h.0.1 after h.0.2 rest rows row h.3 in
    (later.0, later.1, (h.0, h.1, h.2, later.2))

-- no row is a front of any rows
no_rows : (input : Option (List ℕ)) → AreFirstRows input []
unfolding Reached
no_rows None = tt
no_rows (Some text) = (state.StartRecord, strip_bom text, (refl, refl))

-- all rows but the latest are first ones too
fewer_rows : (input : Option (List ℕ)) (rows : List Row) (row : Row) → AreFirstRows input (row ∷ rows) → AreFirstRows input rows
fewer_rows None rows row first = tt
fewer_rows (Some text) rows row first =
    reached_front default_config state.StartRecord first.0 (strip_bom text) first.1 (reverse rows) row
    (subst (λ (rs : List Row). Reached default_config state.StartRecord (strip_bom text) rs first.0 first.1) (reverse-append (row ∷ []) rows) first.2)

all_are_first : (input : Option (List ℕ)) (rows : List Row) → AreAllRows input rows → AreFirstRows input rows
all_are_first None rows all = tt
all_are_first (Some text) rows all = (all.0, all.1, all.2)

-- whatever the reason, the rows that were answered are the first ones
stopped_first : (threads : ℕ) (input : Option (List ℕ)) (rows : List Row) (why : Stop) → Stopped threads input rows why → AreFirstRows input rows
stopped_first threads input rows stop.AtEnd h = all_are_first input rows h
stopped_first threads input rows (stop.Refused why) h = fewer_rows input rows h.0 h.1
stopped_first threads input rows stop.NoMemory h = h
stopped_first threads input rows stop.ReadFault h = h
stopped_first threads input rows stop.WriteFault h = h

told_in_full : (why : Stop) (before now : Option (List ℕ)) (lines : List Line) (output : Output) → why ≢ stop.WriteFault → IsToldUntil why before now lines output → IsTold before now lines output
told_in_full stop.AtEnd before now lines output other told = told
told_in_full (stop.Refused why) before now lines output other told = told
told_in_full stop.NoMemory before now lines output other told = told
told_in_full stop.ReadFault before now lines output other told = told
told_in_full stop.WriteFault before now lines output other told = absurd (other refl)

other_end : (why : Stop) → why ≢ stop.WriteFault → end_of why ≢ end.WriteFault
other_end stop.AtEnd other = λ e. cc
other_end (stop.Refused why) other = λ e. cc
other_end stop.NoMemory other = λ e. cc
other_end stop.ReadFault other = λ e. cc
other_end stop.WriteFault other = absurd (other refl)

-- a text went out, or a front of it
whole_or_cut : (before after : Option (List ℕ)) (text : List ℕ) (why : Stop) (report : Report) → why ≢ stop.WriteFault → GoesOrFails before after text 0 report.written (end_of why) report.end → GoesOut before after text why report
whole_or_cut before after text why report other (inl whole) =
    let all : report.written ≡ length text = omega (arith, whole.2) in
    record {
      appended = subst (Appends before after) (sym (take_all report.written text (omega (arith, all)))) whole.1;
      within = omega (arith, all);
      cut = λ failed. absurd (other_end why other (sym whole.0 ∙ failed));
      whole = λ _. (all, whole.0);
    }
whole_or_cut before after text why report other (inr cut) =
    let out : cut.1.0 ≡ report.written = omega (arith, cut.1.3) in
    let short : report.written < length text = omega (arith, out, cut.1.1) in
    record {
      appended = subst (λ (n : ℕ). Appends before after (take n text)) out cut.1.2;
      within = omega arith;
      cut = λ _. short;
      whole = λ fine. absurd (fine cut.0);
    }

-- the last line tells the greatest skip only where all rows are answered
closing_same : (why : Stop) (row number most greatest bound : ℕ) → row ≡ number → (why ≡ stop.AtEnd → most ≡ greatest) → closing_text row most bound why ≡ closing_text number greatest bound why
closing_same stop.AtEnd row number most greatest bound same is = ap (λ n. closing_text row n bound stop.AtEnd) (is refl) ∙ ap (λ n. closing_text n greatest bound stop.AtEnd) same
closing_same (stop.Refused why) row number most greatest bound same is = ap (λ n. closing_text n greatest bound (stop.Refused why)) same
closing_same stop.NoMemory row number most greatest bound same is = refl
closing_same stop.ReadFault row number most greatest bound same is = refl
closing_same stop.WriteFault row number most greatest bound same is = refl

-- a replay that stopped for another reason than the writer, with its last line
replays_with : (threads k number most : ℕ) (lists : List (List Entry)) (input before now after : Option (List ℕ)) (output : Output) (why : Stop) (report : Report) (rows : List Row) (lines : List Line)
    → Answered threads rows lines → Show threads k lists lines → Stopped threads input rows why → why ≢ stop.WriteFault → (why ≡ stop.AtEnd → most ≡ greatest_skip lines) → number ≡ length lines + 1 → IsTold before now lines output
    → GoesOrFails now after (pending output ++ closing_text number most (threads * k) why) output.written report.written (end_of why) report.end → Replays threads k lists input before after report
replays_with threads k number most lists input before now after output why report rows lines answered shown stopped other most_is number_is told goes = record {
  rows = rows;
  lines = lines;
  why = why;
  answered = answered;
  shown = shown;
  greatest = greatest_few threads k lines shown.few;
  stopped = stopped;
  goes_out =
      let last = closing_text number most (threads * k) why in
      let same : last ≡ closing_text (length lines + 1) (greatest_skip lines) (threads * k) why = closing_same why number (length lines + 1) most (greatest_skip lines) (threads * k) number_is most_is in
      let all : told.gone ++ (pending output ++ last) ≡ lines_text lines ++ closing_text (length lines + 1) (greatest_skip lines) (threads * k) why =
      sym (append_assoc told.gone (pending output) last) ∙ (ap (λ front. front ++ last) told.all ∙ ap (λ z. lines_text lines ++ z) same) in
      whole_or_cut before after _ why report other
      (goes_after before now after told.gone (pending output ++ last) _ 0 output.written report.written (end_of why) report.end told.appended (omega (arith, told.count)) all goes);
}

-- a replay that was cut off, to which nothing is added
replays_cut : (threads k : ℕ) (lists : List (List Entry)) (input before now after : Option (List ℕ)) (output : Output) (report : Report) (rows : List Row) (lines : List Line)
    → Answered threads rows lines → Show threads k lists lines → AreFirstRows input rows → IsCutOff before now lines output.written → report.end ≡ end.WriteFault → Keeps now after → report.written ≡ output.written → Replays threads k lists input before after report
replays_cut threads k lists input before now after output report rows lines answered shown first cut failed keeps same =
    let text : lines_text lines ++ [] ≡ lines_text lines = append-nil (lines_text lines) in
    let short : report.written < length (lines_text lines ++ []) = rw text (omega (arith, same, cut.short)) in
    record {
      rows = rows;
      lines = lines;
      why = stop.WriteFault;
      answered = answered;
      shown = shown;
      greatest = greatest_few threads k lines shown.few;
      stopped = first;
      goes_out = record {
        appended = rw (text, same) (subst (Appends before after) (append-nil (take output.written (lines_text lines))) (appends_more before now after (take output.written (lines_text lines)) [] cut.appended (appends_none now after keeps)));
        within = omega arith;
        cut = λ _. short;
        whole = λ fine. absurd (fine failed);
      };
    }

-- a replay that stopped, and then closed
pub replays : (failed : Bool) (threads k : ℕ) (lists : List (List Entry)) (input before now after : Option (List ℕ)) (closing : Closing) (output : Output) (report : Report)
    → HasStopped failed threads k lists input before now closing.row closing.most output closing.stop → closing.bound ≡ threads * k → Closes now after closing output report → Replays threads k lists input before after report
replays failed threads k lists input before now after closing output report stopped bound_is (inl broken) =
    let cut : IsCutOff before now stopped.lines output.written = subst (λ (why : Stop). IsToldUntil why before now stopped.lines output) broken.0 stopped.told in
    let first : AreFirstRows input stopped.rows = stopped_first threads input stopped.rows closing.stop stopped.stopped in
    replays_cut threads k lists input before now after output report stopped.rows stopped.lines stopped.answered stopped.shown first cut broken.1 broken.2 broken.3
replays failed threads k lists input before now after closing output report stopped bound_is (inr goes) =
    let told : IsTold before now stopped.lines output = told_in_full closing.stop before now stopped.lines output goes.0 stopped.told in
    let out : GoesOrFails now after (pending output ++ closing_text closing.row closing.most (threads * k) closing.stop) output.written report.written (end_of closing.stop) report.end =
    subst (λ (bound : ℕ). GoesOrFails now after (pending output ++ closing_text closing.row closing.most bound closing.stop) output.written report.written (end_of closing.stop) report.end) bound_is goes.1 in
    replays_with threads k closing.row closing.most lists input before now after output closing.stop report stopped.rows stopped.lines stopped.answered stopped.shown stopped.stopped goes.0 stopped.most_is (stopped.number_is goes.0) told out

-- a replay for which there was no memory at all
pub replays_nothing : (threads k : ℕ) (lists : List (List Entry)) (input before after : Option (List ℕ)) (report : Report) → Show threads k lists [] → GoesOrFails before after (codes "no memory\n") 0 report.written end.NoMemory report.end → Replays threads k lists input before after report
replays_nothing threads k lists input before after report shown goes = record {
  rows = [];
  lines = [];
  why = stop.NoMemory;
  answered = tt;
  shown = shown;
  greatest = greatest_few threads k [] tt;
  stopped = no_rows input;
  goes_out = whole_or_cut before after (codes "no memory\n") stop.NoMemory report (λ e. cc) goes;
}

-- only where reading stopped so is the end a read fault
read_fault : (why : Stop) → end_of why ≡ end.ReadFault → why ≡ stop.ReadFault
read_fault stop.AtEnd is = cc
read_fault (stop.Refused why) is = cc
read_fault stop.NoMemory is = cc
read_fault stop.ReadFault is = refl
read_fault stop.WriteFault is = cc

-- and then the reader has failed
pub fault_failed : (failed : Bool) (threads k : ℕ) (lists : List (List Entry)) (input before now after : Option (List ℕ)) (closing : Closing) (output : Output) (report : Report)
    → HasStopped failed threads k lists input before now closing.row closing.most output closing.stop → Closes now after closing output report → report.end ≡ end.ReadFault → failed ≡ true
fault_failed failed threads k lists input before now after closing output report stopped (inl cut) is = absurd (let bad : end.WriteFault ≡ end.ReadFault = sym cut.1 ∙ is in cc)
fault_failed failed threads k lists input before now after closing output report stopped (inr (goes, (inl whole))) is = stopped.fault (read_fault closing.stop (sym whole.0 ∙ is))
fault_failed failed threads k lists input before now after closing output report stopped (inr (goes, (inr cut))) is = absurd (let bad : end.WriteFault ≡ end.ReadFault = sym cut.0 ∙ is in cc)

-- only where a row is refused is the end a refusal
pub refused_end : (why : Stop) → end_of why ≡ end.Refused → (refusal : Refusal) × (why ≡ stop.Refused refusal)
refused_end stop.AtEnd is = absurd (let bad : end.Done ≡ end.Refused = is in cc)
refused_end (stop.Refused refusal) is = (refusal, refl)
refused_end stop.NoMemory is = absurd (let bad : end.NoMemory ≡ end.Refused = is in cc)
refused_end stop.ReadFault is = absurd (let bad : end.ReadFault ≡ end.Refused = is in cc)
refused_end stop.WriteFault is = absurd (let bad : end.WriteFault ≡ end.Refused = is in cc)

pub refused_closing : (now after : Option (List ℕ)) (closing : Closing) (output : Output) (report : Report) → Closes now after closing output report → report.end ≡ end.Refused → (refusal : Refusal) × (closing.stop ≡ stop.Refused refusal)
refused_closing now after closing output report (inl cut) is = absurd (let bad : end.WriteFault ≡ end.Refused = sym cut.1 ∙ is in cc)
refused_closing now after closing output report (inr (goes, (inl whole))) is = refused_end closing.stop (sym whole.0 ∙ is)
refused_closing now after closing output report (inr (goes, (inr cut))) is = absurd (let bad : end.WriteFault ≡ end.Refused = sym cut.0 ∙ is in cc)
