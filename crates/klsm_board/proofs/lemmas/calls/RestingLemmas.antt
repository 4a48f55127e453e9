-- What a rest adds to its member's list commits nothing.
use Rattle.std.proofs.Common.{◌≡◌, ℕ, zero, suc, List, [], ◌∷◌, Result, Err, Ok, IfErr, OnOk, refl, ap, ◌∙◌}
use Rattle.klsm_schedules.specs.declared.step.Entry.{Entry}
use Rattle.klsm_schedules.specs.declared.step.Entry.TheVariants.{Missed}
use Rattle.klsm_schedules.specs.OwnSteps.{no_key}
use Rattle.klsm_board.specs.declared.errors.Busy.{Busy}
use Rattle.klsm_board.specs.Boards.{Gains}
use Rattle.klsm_board.specs.Effects.{committed_in}
use Rattle.klsm_board.specs.Entries.{own_acquired, own_marked}
use Rattle.klsm_board.specs.Resting.{MissesRest, MissesRestTimes, Rests}
use Rattle.klsm_board.proofs.lemmas.calls.AddLemmas.{own_quiet}
use Rattle.klsm_board.proofs.lemmas.calls.AddedLemmas.{quiet_gains}
use Rattle.klsm_board.proofs.lemmas.calls.EventLemmas.{same_events}

rests_quiet : (t : ℕ) (es es' : List Entry) → Rests t es es' → committed_in es' ≡ committed_in es
rests_quiet t es es' did = same_events (own_acquired t did.0 es) (own_marked t no_key) es' did.1 refl ∙ own_quiet t did.0 es

missed_rest_quiet : (t : ℕ) (es es' : List Entry) (busy : Busy) → MissesRest t es es' busy → committed_in es' ≡ committed_in es
missed_rest_quiet t es es' busy missed = same_events es (Missed busy.lock busy.by ∷ []) es' missed.1 refl

pub rest_times_quiet : (n t : ℕ) (es es' : List Entry) → MissesRestTimes n t es es' → committed_in es' ≡ committed_in es
rest_times_quiet zero t es es' none = ap committed_in none
rest_times_quiet (suc n) t es es' some = missed_rest_quiet t some.0 es' some.1 some.3 ∙ rest_times_quiet n t es some.0 some.2

-- no answer inserts or deletes anything
pub rest_gains : {T : Type 0} (t : ℕ) (es es' : List Entry) (answer : Result T Busy) → OnOk answer (Rests t es es') → IfErr answer (MissesRest t es es') → Gains es es' [] []
rest_gains t es es' (Ok done) ok err = quiet_gains es es' (rests_quiet t es es' ok)
rest_gains t es es' (Err busy) ok err = quiet_gains es es' (missed_rest_quiet t es es' busy err)
