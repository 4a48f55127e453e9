-- What one row does to a replay.
use Rattle.std.proofs.Common.{◌≡◌, ◌≢◌, ℕ, ◌+◌, ◌<◌, ◌≤◌, Bool, true, List, [], ◌∷◌, ◌++◌, length, append-nil, max, Option, Result, Ok, Err, IfOk, IfErr, refl, sym, ap, ◌∙◌, subst, arith, eqb}
use Rattle.std.proofs.lemmas.Bool.Decides.{nat_tests}
use Rattle.std.specs.List.{count_by}
use Rattle.std.specs.Result.{MatchResult}
use mathlib.Core.Logic.{dite}
use native.Mathlib.Decide.{ℕ_discrete}
use Rattle.klsm_run.specs.declared.item.Item.{Item}
use Rattle.klsm_run.specs.ItemOrder.{is_smaller}
use Rattle.klsm_run.specs.Content.{placed, sorted, without}
use Rattle.klsm_run.proofs.ContentLemmas.{sorted_itself}
use Rattle.klsm_run.proofs.RankLemmas.{count_sorted}
use Rattle.klsm_run.proofs.WithoutLemmas.{sorted_without}
use Rattle.klsm_schedules.specs.declared.step.Entry.{Entry}
use Rattle.klsm_schedules.specs.Account.{account}
use Rattle.klsm_schedules.proofs.lemmas.hands.HandLemmas.{choice_hit, choice_miss}
use Rattle.klsm_text.specs.declared.answer.Line.{Line}
use Rattle.klsm_text.specs.declared.answer.Printed.{Printed}
use Rattle.klsm_text.specs.declared.answer.Answer.{Answer}
use Rattle.klsm_text.specs.declared.answer.Answer.TheVariants.{Inserted, Deleted, Nothing}
use Rattle.klsm_text.specs.declared.request.Request.{Request}
use Rattle.klsm_text.specs.declared.request.Refusal.{Refusal}
use Rattle.klsm_text.specs.declared.request.Refusal.TheVariants as refusal
use Rattle.klsm_text.specs.declared.stop.Stop.{Stop}
use Rattle.klsm_text.specs.declared.stop.Stop.TheVariants as stop
use Rattle.klsm_text.specs.declared.script.Script.{Script}
use Rattle.klsm_rows.specs.Rows.{Row}
use Rattle.klsm_text.specs.Script.{request_of, request_after, row_limit}
use Rattle.klsm_text.specs.AnswerText.{greatest_skip, live_by, live_after, skip_of}
use Rattle.klsm_tool.specs.Answering.{Answers}
use Rattle.klsm_tool.specs.Crews.{AreFew, Goes, content_after, steps_in}
use Rattle.klsm_tool.specs.Shown.{AreShown, IsFew, Show, answers_of, shown_in}
use Rattle.klsm_tool.specs.Replay.{Answered, Stopped}
use Rattle.klsm_text.specs.Reading.{HasReadScript, ReadStops, reader_failed}
use Rattle.klsm_text.specs.ThreadRows.{AreAccepted, StandsAtRefusal}
use Rattle.klsm_tool.specs.Progress.{StandsAfter, StopsBefore}
use Rattle.klsm_text.proofs.ScriptLemmas.{first_read, judged}

-- where no row could be read, no further row is answered
pub read_stops : (failed : Bool) (threads : ℕ) (input : Option (List ℕ)) (rows : List Row) (why : Stop) → ReadStops failed input rows why → Stopped threads input rows why × (why ≢ stop.WriteFault) × (why ≡ stop.ReadFault → failed ≡ true)
read_stops failed threads input rows stop.AtEnd h = (h, λ e. cc, λ e. absurd (let bad : stop.AtEnd ≡ stop.ReadFault = e in cc))
read_stops failed threads input rows (stop.Refused why) h = absurd h
read_stops failed threads input rows stop.NoMemory h = (h.0, λ e. cc, λ e. h.1)
read_stops failed threads input rows stop.ReadFault h = (h.0, λ e. cc, λ e. h.1)
read_stops failed threads input rows stop.WriteFault h = absurd h

-- an answer does the same to contents of one ascending list
live_alike : (c d : List Item) (answer : Answer) → sorted c ≡ sorted d → sorted (live_after c answer) ≡ sorted (live_after d answer)
live_alike c d (Inserted x) same = ap (placed x) same
live_alike c d (Deleted x) same = sorted_without x c ∙ (ap (without x) same ∙ sym (sorted_without x d))
live_alike c d Nothing same = same

-- and skips as many items of them
skip_alike : (c d : List Item) (answer : Answer) → sorted c ≡ sorted d → skip_of c answer ≡ skip_of d answer
skip_alike c d (Inserted x) same = refl
skip_alike c d (Deleted x) same =
    let below : Item → Bool = λ y. is_smaller y x in
    sym (count_sorted below c) ∙ (ap (count_by below) same ∙ count_sorted below d)
skip_alike c d Nothing same = refl

-- a list that goes on shows one answer more, in a line more
pub shown_next : (threads : ℕ) (lists lists' : List (List Entry)) (lines : List Line) (line : Line) → AreShown threads lists lines → Goes line.thread lists lists' (line.answer ∷ []) → AreShown threads lists' (line ∷ lines)
shown_next threads lists lists' lines line shown goes t below = dite (ℕ_discrete line.thread t)
    (λ here. ap (λ z. answers_of t lines ++ z) (choice_hit line.thread t (line.answer ∷ []) [] here)
    ∙ (ap (λ z. z ++ line.answer ∷ []) (shown t below)
    ∙ sym (subst (λ u. shown_in (steps_in lists' u) ≡ shown_in (steps_in lists u) ++ line.answer ∷ []) here goes.here)))
    (λ other. ap (λ z. answers_of t lines ++ z) (choice_miss line.thread t (line.answer ∷ []) [] other)
    ∙ (append-nil (answers_of t lines) ∙ (shown t below ∙ ap shown_in (sym (goes.else t (λ same. other (sym same)))))))

-- one that shows none more has the same lines
pub shown_same : (threads t : ℕ) (lists lists' : List (List Entry)) (lines : List Line) → AreShown threads lists lines → Goes t lists lists' [] → AreShown threads lists' lines
shown_same threads t lists lists' lines shown goes u below = dite (ℕ_discrete u t)
    (λ here. shown u below ∙ sym (subst (λ v. shown_in (steps_in lists' v) ≡ shown_in (steps_in lists v)) (sym here) (goes.here ∙ append-nil (shown_in (steps_in lists t)))))
    (λ other. shown u below ∙ ap shown_in (sym (goes.else u other)))

-- what is left goes on as the live items do
content_alike : (live : List Item) (answer : Answer) → content_after (sorted live) answer ≡ sorted (live_after live answer)
content_alike live (Inserted x) = ap (placed x) (sorted_itself live)
content_alike live (Deleted x) = sym (sorted_without x live)
content_alike live Nothing = refl

-- so the lines show all that they do, with one more
pub show_next : (threads k : ℕ) (lists lists' : List (List Entry)) (lines : List Line) (line : Line) → Show threads k lists lines → Goes line.thread lists lists' (line.answer ∷ []) → IsFew threads k (skip_of (account lists).left line.answer)
    → Show threads k lists' (line ∷ lines)
show_next threads k lists lists' lines line show goes few = record {
  answers = shown_next threads lists lists' lines line show.answers goes;
  left_is = goes.left_is ∙ (ap (λ c. content_after c line.answer) show.left_is ∙ content_alike (live_by lines) line.answer);
  few = (
    subst (IsFew threads k) (ap (λ c. skip_of c line.answer) show.left_is ∙ skip_alike (sorted (live_by lines)) (live_by lines) line.answer (sorted_itself (live_by lines))) few,
    show.few,
  );
}

pub show_same : (threads k t : ℕ) (lists lists' : List (List Entry)) (lines : List Line) → Show threads k lists lines → Goes t lists lists' [] → Show threads k lists' lines
show_same threads k t lists lists' lines show goes = record {
  answers = shown_same threads t lists lists' lines show.answers goes;
  left_is = goes.left_is ∙ show.left_is;
  few = show.few;
}

-- no more items are inserted than there are answers
pub few_next : (t n : ℕ) (lists lists' : List (List Entry)) (answers : List Answer) → length answers ≤ 1 → AreFew n lists → Goes t lists lists' answers → AreFew (n + 1) lists'
few_next t n lists lists' answers one few goes = let more = goes.inserted_are in omega (arith, more, one, few)

-- a row that was read and answered
pub next_stands : {R : Type 0} (rem : R → Option (List ℕ)) (threads k : ℕ) (lists lists' : List (List Entry)) (input : Option (List ℕ)) (rows : List Row) (lines : List Line) (a b : Script R) (items items' : List Item) (most most' : ℕ) (row : Row) (request : Request) (printed : Printed)
    → StandsAfter rem threads k lists input rows lines a items most → length rows < row_limit → HasReadScript rem input (row ∷ rows) b → request_of threads row ≡ Ok request
    → Answers threads k request lists lists' items items' most most' printed
    → (row : Row) × StandsAfter rem threads k lists' input (row ∷ rows) (printed.line ∷ lines) b items' most' × (printed.skip ≡ skip_of (live_by lines) printed.line.answer)
next_stands rem threads k lists lists' input rows lines a b items items' most most' row request printed now below read asks answers =
    let skip = answers.skip ∙ skip_alike items (live_by lines) printed.line.answer now.items_are in (
      row,
      record {
        answered = ((request, judged threads rows row below ∙ asks, answers.thread, answers.answer), now.answered);
        shown = show_next threads k lists lists' lines printed.line now.shown (subst (λ t. Goes t lists lists' (printed.line.answer ∷ [])) (sym answers.thread) answers.goes) answers.few;
        read = read;
        items_are = answers.live_is ∙ live_alike items (live_by lines) printed.line.answer now.items_are;
        most_is = answers.most_is ∙ (ap (λ n. max n printed.skip) now.most_is ∙ ap (max (greatest_skip lines)) skip);
      },
      skip,
    )

-- a row that was read and refused
pub refused : {R : Type 0} (rem : R → Option (List ℕ)) (threads k : ℕ) (lists : List (List Entry)) (input : Option (List ℕ)) (rows : List Row) (lines : List Line) (a b : Script R) (items : List Item) (most : ℕ) (row : Row) (why : Refusal)
    → StandsAfter rem threads k lists input rows lines a items most → length rows < row_limit → HasReadScript rem input (row ∷ rows) b → request_of threads row ≡ Err why → StopsBefore (reader_failed b) threads k lists input rows lines most (stop.Refused why)
refused rem threads k lists input rows lines a b items most row why now below read asks = record {
  stopped = (row, first_read rem input (row ∷ rows) b read, judged threads rows row below ∙ asks);
  shown = now.shown;
  most_is = now.most_is;
  other = λ e. cc;
  fault = λ e. absurd (let bad : stop.Refused why ≡ stop.ReadFault = e in cc);
}

-- a row that was read and for whose item memory is wanted
pub given_up : {R : Type 0} (rem : R → Option (List ℕ)) (threads k : ℕ) (lists lists' : List (List Entry)) (input : Option (List ℕ)) (rows : List Row) (lines : List Line) (a b : Script R) (items : List Item) (most most' : ℕ) (request : Request) (why : Stop)
    → StandsAfter rem threads k lists input rows lines a items most → why ≡ stop.NoMemory → Goes request.thread lists lists' [] → most' ≡ most → StopsBefore (reader_failed b) threads k lists' input rows lines most' why
given_up rem threads k lists lists' input rows lines a b items most most' request why now memory goes same = subst (StopsBefore (reader_failed b) threads k lists' input rows lines most') (sym memory) (record {
  stopped = first_read rem input rows a now.read;
  shown = show_same threads k request.thread lists lists' lines now.shown goes;
  most_is = same ∙ now.most_is;
  other = λ e. cc;
  fault = λ e. absurd (let bad : stop.NoMemory ≡ stop.ReadFault = e in cc);
})

-- a row that was read, by how its thread's member answers
pub row_after : {R : Type 0} (rem : R → Option (List ℕ)) (threads k : ℕ) (lists lists' : List (List Entry)) (input : Option (List ℕ)) (rows : List Row) (lines : List Line) (a b : Script R) (items items' : List Item) (most most' : ℕ) (row : Row) (request : Request) (result : Result Printed Stop)
    → StandsAfter rem threads k lists input rows lines a items most → length rows < row_limit → HasReadScript rem input (row ∷ rows) b → request_of threads row ≡ Ok request
    → IfOk result (Answers threads k request lists lists' items items' most most') → IfErr result (λ why. (why ≡ stop.NoMemory) × Goes request.thread lists lists' [] × (most' ≡ most))
    → MatchResult result (λ printed. (row : Row) × StandsAfter rem threads k lists' input (row ∷ rows) (printed.line ∷ lines) b items' most' × (printed.skip ≡ skip_of (live_by lines) printed.line.answer)) (StopsBefore (reader_failed b) threads k lists' input rows lines most')
row_after rem threads k lists lists' input rows lines a b items items' most most' row request (Ok printed) now below read asks ok err =
    next_stands rem threads k lists lists' input rows lines a b items items' most most' row request printed now below read asks ok
row_after rem threads k lists lists' input rows lines a b items items' most most' row request (Err why) now below read asks ok err =
    given_up rem threads k lists lists' input rows lines a b items most most' request why now err.0 err.1 err.2

-- and all inserted at most one item more
pub few_after : (threads k n : ℕ) (lists lists' : List (List Entry)) (items items' : List Item) (most most' : ℕ) (request : Request) (result : Result Printed Stop) → AreFew n lists
    → IfOk result (Answers threads k request lists lists' items items' most most') → IfErr result (λ why. (why ≡ stop.NoMemory) × Goes request.thread lists lists' [] × (most' ≡ most))
    → AreFew (n + 1) lists'
few_after threads k n lists lists' items items' most most' request (Ok printed) few ok err = few_next request.thread n lists lists' (printed.line.answer ∷ []) (omega arith) few ok.goes
few_after threads k n lists lists' items items' most most' request (Err why) few ok err = few_next request.thread n lists lists' [] (omega arith) few err.1

-- a row beyond the limit is refused for that
pub too_many : {R : Type 0} (rem : R → Option (List ℕ)) (threads : ℕ) (input : Option (List ℕ)) (rows : List Row) (b : Script R) (row : Row)
    → length rows ≡ row_limit → HasReadScript rem input (row ∷ rows) b → Stopped threads input rows (stop.Refused refusal.Rows) × (stop.Refused refusal.Rows ≢ stop.WriteFault)
too_many rem threads input rows b row all read =
    let beyond : eqb (length rows) row_limit ≡ true = grind (arith, nat_tests) in
    let asks : request_after threads rows row ≡ Err refusal.Rows = rw beyond refl in
    ((row, first_read rem input (row ∷ rows) b read, asks), λ e. cc)

-- a replay that begins
pub first_stands : {R : Type 0} (rem : R → Option (List ℕ)) (threads k : ℕ) (lists : List (List Entry)) (input : Option (List ℕ)) (script : Script R) (items : List Item) (most : ℕ) → Show threads k lists [] → HasReadScript rem input [] script → items ≡ [] → most ≡ 0 → StandsAfter rem threads k lists input [] [] script items most
first_stands rem threads k lists input script items most shown read none least = record { answered = tt; shown = shown; read = read; items_are = ap sorted none; most_is = least }

-- rows that are answered are accepted
pub accepted_rows : (threads : ℕ) (rows : List Row) (lines : List Line) → Answered threads rows lines → AreAccepted threads rows
accepted_rows threads [] lines answered = tt
accepted_rows threads (row ∷ rows) [] answered = absurd answered
accepted_rows threads (row ∷ rows) (line ∷ lines) answered = ((answered.0.0, answered.0.1), accepted_rows threads rows lines answered.1)

-- a row for whose item memory is wanted is not refused
pub unanswered_stands : {R : Type 0} (rem : R → Option (List ℕ)) (threads : ℕ) (input : Option (List ℕ)) (script : Script R) (A B : Type 0) (result : Result Printed Stop) → IfErr result (λ why. (why ≡ stop.NoMemory) × A × B) → IfErr result (StandsAtRefusal rem threads input script)
unanswered_stands rem threads input script A B (Ok printed) told = tt
unanswered_stands rem threads input script A B (Err why) told = λ refusal is. absurd (let bad : stop.NoMemory ≡ stop.Refused refusal = sym told.0 ∙ is in cc)

-- nor is one where the writer failed
pub cut_stands : {R : Type 0} (rem : R → Option (List ℕ)) (threads : ℕ) (input : Option (List ℕ)) (script : Script R) (why : Stop) → why ≡ stop.WriteFault → StandsAtRefusal rem threads input script why
cut_stands rem threads input script why cut refusal is = absurd (let bad : stop.WriteFault ≡ stop.Refused refusal = sym cut ∙ is in cc)
