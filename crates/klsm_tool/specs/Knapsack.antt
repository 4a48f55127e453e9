-- What `knapsack_over` promises.
use Rattle.std.specs.Prelude.{ℕ, ◌⊎◌, List, codes, Option}
use Rattle.klsm_run.specs.declared.limits.TheConstants.{PROGRAM_LEVELS}
use Rattle.klsm_instance.specs.declared.errors.ReadError.{ReadError}
use Rattle.klsm_instance.specs.declared.errors.ReadError.TheVariants as read_error
use Rattle.klsm_instance.specs.declared.search.Best.{Best}
use Rattle.klsm_instance.specs.Answers.{IsBestAnswer}
use Rattle.klsm_instance.specs.Format.{IsProblemIn, RefusesInput}
use Rattle.klsm_instance.specs.Selections.{Problem}
use Rattle.klsm_schedules.specs.declared.step.Entry.{Entry}
use Rattle.klsm_knapsack.specs.Searches.{HasSearched, usual_options}
use Rattle.klsm_words.specs.declared.settings.Search.{Search}
use Rattle.klsm_text.specs.declared.report.End.{End}
use Rattle.klsm_text.specs.declared.report.End.TheVariants as end
use Rattle.klsm_text.specs.declared.report.Report.{Report}
use Rattle.klsm_text.specs.SelectionText.{best_text, read_text}
use Rattle.klsm_text.specs.Reports.{GoesOrFails}

-- how a run ends whose instance is not read
abbrev pub read_end : ReadError → End
read_end (read_error.BadRow row) = end.Refused
read_end read_error.TooMany = end.Refused
read_end (read_error.BadNumber row) = end.Refused
read_end (read_error.OutOfRange row) = end.Refused
read_end read_error.ReadFault = end.ReadFault
read_end read_error.NoMemory = end.NoMemory

-- a line goes out and the run ends so, or the writer fails before its end
abbrev pub Writes : Option (List ℕ) → Option (List ℕ) → List ℕ → End → Report → Type 0
Writes before after text good report =
    GoesOrFails before after text 0 report.written good report.end

abbrev pub RefusesIn : Option (List ℕ) → Option (List ℕ) → ReadError → Report → Type 0
RefusesIn before after why report = Writes before after (read_text why) (read_end why) report

-- the selection's line, or that there is no memory for it
abbrev pub WritesBest : Option (List ℕ) → Option (List ℕ) → Problem → Best → Report → Type 0
WritesBest before after p best report =
    Writes before after (best_text p best) end.Done report
    ⊎ Writes before after (codes "no memory\n") end.NoMemory report

-- some workers have made that search, each by a generator of its own
abbrev pub IsSearchedBy : Search → Type 0
IsSearchedBy search = (lists : List (List Entry))
    × HasSearched PROGRAM_LEVELS (usual_options search.threads search.k search.idle) lists

-- the problem of the input is solved by that search: a best selection is written; or memory was wanted
abbrev pub SolvesProblem : Search → Problem → Option (List ℕ) → Option (List ℕ) → Report → Type 0
SolvesProblem search p before after report =
    ((best : Best) × IsBestAnswer p best × IsSearchedBy search × WritesBest before after p best report)
    ⊎ Writes before after (codes "no memory\n") end.NoMemory report

-- an instance that is refused is answered with that, and another one is solved as the words say
abbrev pub Solves : Search → Option (List ℕ) → Option (List ℕ) → Option (List ℕ) → Report → Type 0
Solves search input before after report =
    ((why : ReadError) × RefusesInput input why × RefusesIn before after why report)
    ⊎ ((p : Problem) × IsProblemIn input p × SolvesProblem search p before after report)
