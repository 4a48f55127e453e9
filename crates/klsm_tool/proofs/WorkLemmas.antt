-- What a worker's rows are answered with.
use Rattle.std.proofs.Common.{◌≡◌, ℕ, zero, suc, ◌+◌, ◌<◌, ◌≤◌, List, [], ◌∷◌, ◌++◌, length, map, take, drop, get_or, refl, sym, ap, ◌∙◌, subst, arith}
use Rattle.std.proofs.lemmas.List.{length-map, map_more, take_all}
use Rattle.klsm_run.specs.declared.limits.TheConstants.{PROGRAM_LEVELS}
use Rattle.klsm_schedules.specs.declared.step.Entry.{Entry}
use Rattle.klsm_text.specs.declared.answer.Answer.{Answer}
use Rattle.klsm_text.specs.declared.thread_rows.ThreadRow.{ThreadRow}
use Rattle.klsm_text.specs.Keeping.{operation_in}
use Rattle.klsm_tool.specs.Working.{GaveUpAt}
use Rattle.klsm_tool.specs.Shown.{shown_in}
use Rattle.klsm_tool.specs.MemberCalls.{AreAnswers}
use Rattle.klsm_text.specs.declared.request.Operation.{Operation}
use Rattle.klsm_tool.specs.MemberCalls.{IsAnswerTo, Wants}
use Rattle.klsm_tool.specs.declared.member_calls.Want.{Want}

-- one answer more
pub answers_more : (asked : List Operation) (answers : List Answer) (next : Operation) (answer : Answer) → AreAnswers asked answers → IsAnswerTo next answer → AreAnswers (asked ++ next ∷ []) (answers ++ answer ∷ [])
answers_more [] [] next answer all is = (is, tt)
answers_more [] (a ∷ answers) next answer all is = absurd all
answers_more (x ∷ asked) [] next answer all is = absurd all
answers_more (x ∷ asked) (a ∷ answers) next answer all is = (all.0, answers_more asked answers next answer all.1 is)

-- as many answers as rows
answers_many : (asked : List Operation) (answers : List Answer) → AreAnswers asked answers → length answers ≡ length asked
answers_many [] [] all = refl
answers_many [] (a ∷ answers) all = absurd all
answers_many (x ∷ asked) [] all = absurd all
answers_many (x ∷ asked) (a ∷ answers) all = omega (arith, answers_many asked answers all.1)

many_taken : (rows : List ThreadRow) (i : ℕ) → i ≤ length rows → length (take i rows) ≡ i
many_taken rows zero within = refl
many_taken [] (suc i) within = absurd (omega (arith, within))
many_taken (r ∷ rows) (suc i) within = omega (arith, many_taken rows i (omega (arith, within)))

all_are : (rows : List ThreadRow) (i : ℕ) (d : ThreadRow) → i < length rows → map operation_in rows ≡ map operation_in (take i rows) ++ operation_in (get_or rows i d) ∷ map operation_in (drop (suc i) rows)
all_are [] i d below = absurd (omega (arith, below))
all_are (r ∷ rows) zero d below = refl
all_are (r ∷ rows) (suc i) d below = ap (λ z. operation_in r ∷ z) (all_are rows i d (omega (arith, below)))

module _ (rows : List ThreadRow) (i : ℕ) (d : ThreadRow) (within : i < length rows) where
  -- the row is answered
  pub row_answered : (es es' : List Entry) (answer : Answer) → AreAnswers (map operation_in (take i rows)) (shown_in es) → IsAnswerTo (operation_in (get_or rows i d)) answer → shown_in es' ≡ shown_in es ++ answer ∷ [] → AreAnswers (map operation_in (take (i + 1) rows)) (shown_in es')
  row_answered es es' answer before is_answer shows =
      let more : map operation_in (take (i + 1) rows) ≡ map operation_in (take i rows) ++ operation_in (get_or rows i d) ∷ [] = map_more operation_in rows i d within in
      rw (more, shows) (answers_more (map operation_in (take i rows)) (shown_in es) (operation_in (get_or rows i d)) answer before is_answer)

  -- the worker gives up at it
  pub row_given_up : (k t : ℕ) (es es' : List Entry) (want : Want) → AreAnswers (map operation_in (take i rows)) (shown_in es) → shown_in es' ≡ shown_in es → Wants PROGRAM_LEVELS k t es' want → GaveUpAt k t (map operation_in rows) es' want
  row_given_up k t es es' want before same wants = record {
    earlier = map operation_in (take i rows);
    here = operation_in (get_or rows i d);
    later = map operation_in (drop (suc i) rows);
    all = all_are rows i d within;
    answers = subst (AreAnswers (map operation_in (take i rows))) (sym same) before;
    wants = wants;
  }

  -- so many answers were given
  pub so_many : (es : List Entry) → AreAnswers (map operation_in (take i rows)) (shown_in es) → length (shown_in es) ≡ i
  so_many es before = answers_many (map operation_in (take i rows)) (shown_in es) before ∙ (length-map (take i rows) operation_in ∙ many_taken rows i (omega (arith, within)))

-- all rows are answered
pub all_answered : (rows : List ThreadRow) (i : ℕ) (answers : List Answer) → length rows ≤ i → AreAnswers (map operation_in (take i rows)) answers → AreAnswers (map operation_in rows) answers
all_answered rows i answers past all = subst (λ z. AreAnswers (map operation_in z) answers) (take_all i rows past) all
