-- Scripts that are not run, and how far they were read.
use Rattle.std.proofs.Common.{◌≡◌, ◌≢◌, ◌∙◌, ℕ, inl, inr, List, Option, Result, Ok, Err, IfErr, refl, sym}
use Rattle.klsm_text.specs.declared.report.End.{End}
use Rattle.klsm_text.specs.declared.report.End.TheVariants as end
use Rattle.klsm_text.specs.declared.request.Refusal.{Refusal}
use Rattle.klsm_text.specs.declared.script.Script.{Script}
use Rattle.klsm_text.specs.declared.stop.Closing.{Closing}
use Rattle.klsm_text.specs.declared.stop.Stop.{Stop}
use Rattle.klsm_text.specs.declared.stop.Stop.TheVariants as stop
use Rattle.klsm_text.specs.declared.thread_rows.ThreadRow.{ThreadRow}
use Rattle.klsm_text.specs.declared.totals.Totals.{Totals}
use Rattle.klsm_text.specs.Keeping.{KeepsNoMore}
use Rattle.klsm_text.specs.Reading.{reader_failed}
use Rattle.klsm_text.specs.Reports.{GoesOrFails}
use Rattle.klsm_text.specs.ThreadRows.{HasReadToRefusal, StandsAtRefusal}
use Rattle.klsm_tool.specs.Live.{HasNoTotals, outcome_end, outcome_text}
use Rattle.klsm_tool.proofs.ClosingLemmas.{refused_end}

-- a script that is not run
pub not_run : {R : Type 0} (rem : R → Option (List ℕ)) (threads number : ℕ) (input : Option (List ℕ)) (lists : List (List ThreadRow)) (script : Script R) (why : Stop) → KeepsNoMore rem threads input lists script number why → why ≢ stop.AtEnd → HasNoTotals (reader_failed script) threads input number why
not_run rem threads number input lists script stop.AtEnd ended other = absurd (other refl)
not_run rem threads number input lists script (stop.Refused why) ended other = record { rows = ended.rows; accepted = ended.accepted; stops = ended.stops; number_is = ended.number_is }
not_run rem threads number input lists script stop.NoMemory ended other = tt
not_run rem threads number input lists script stop.ReadFault ended other = (record { rows = ended.rows; accepted = ended.accepted; stops = ended.stops; number_is = ended.number_is }, ended.fault refl)
not_run rem threads number input lists script stop.WriteFault ended other = absurd ended.stops

-- want of memory refuses no row
pub memory_refuses_no_row : (refusal : Refusal) (why : Stop) → why ≡ stop.NoMemory → why ≢ stop.Refused refusal
memory_refuses_no_row refusal why memory is = let bad : stop.NoMemory ≡ stop.Refused refusal = sym memory ∙ is in cc

-- so of the script nothing is said then
pub stands_unrefused : {R : Type 0} (rem : R → Option (List ℕ)) (threads : ℕ) (input : Option (List ℕ)) (script : Script R) (result : Result Totals Closing) → IfErr result (λ closing. closing.stop ≡ stop.NoMemory)
    → IfErr result (λ closing. StandsAtRefusal rem threads input script closing.stop)
stands_unrefused rem threads input script (Ok totals) memory = tt
stands_unrefused rem threads input script (Err closing) memory = λ refusal is. absurd (memory_refuses_no_row refusal closing.stop memory is)

-- a run whose end is a refusal has read up to the row that is refused
pub outcome_refused : {R : Type 0} (rem : R → Option (List ℕ)) (threads : ℕ) (input before after : Option (List ℕ)) (script : Script R) (outcome : Result Totals Closing) (written : ℕ) (result : End) → GoesOrFails before after (outcome_text outcome) 0 written (outcome_end outcome) result
    → IfErr outcome (λ closing. StandsAtRefusal rem threads input script closing.stop) → result ≡ end.Refused → HasReadToRefusal rem threads input script
outcome_refused rem threads input before after script (Ok totals) written result (inl whole) stands is = absurd (let bad : end.Done ≡ end.Refused = sym whole.0 ∙ is in cc)
outcome_refused rem threads input before after script (Err closing) written result (inl whole) stands is = let refusal = refused_end closing.stop (sym whole.0 ∙ is) in stands refusal.0 refusal.1
outcome_refused rem threads input before after script outcome written result (inr cut) stands is = absurd (let bad : end.WriteFault ≡ end.Refused = sym cut.0 ∙ is in cc)
