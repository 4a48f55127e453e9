-- Which events the entries of a list have, and so what it inserts and deletes.
use Rattle.std.proofs.Common.{◌≡◌, ℕ, ◌<◌, List, [], ◌++◌, length, sym, ap, ◌∙◌, subst}
use Rattle.std.proofs.lemmas.List.{append-nil}
use Rattle.std.proofs.lemmas.Grind.{flat_map-append}
use Rattle.std.specs.List.{flat_map}
use Rattle.klsm_run.specs.declared.item.Item.{Item}
use Rattle.klsm_schedules.specs.declared.step.Event.{Event}
use Rattle.klsm_schedules.specs.declared.step.Entry.{Entry}
use Rattle.klsm_schedules.specs.OwnSteps.{event_at, inserted, inserted_by}
use Rattle.klsm_schedules.specs.LegalSteps.{BearsStamp}
use Rattle.klsm_board.specs.Effects.{committed_in}

-- entries without an event
abbrev pub IsQuiet : List Entry → Type 0
IsQuiet es = committed_in es ≡ []

pub events_append : (es fs : List Entry) → committed_in (es ++ fs) ≡ committed_in es ++ committed_in fs
events_append es fs = flat_map-append event_at es fs

pub quiet_append : (es fs : List Entry) → IsQuiet es → IsQuiet fs → IsQuiet (es ++ fs)
quiet_append es fs quiet quiet' = events_append es fs ∙ λ i. quiet i ++ quiet' i

-- a list that goes on quietly has the same events
pub same_events : (es fs es' : List Entry) → es' ≡ es ++ fs → IsQuiet fs → committed_in es' ≡ committed_in es
same_events es fs es' is quiet = ap committed_in is ∙ (events_append es fs ∙ (ap (λ z. committed_in es ++ z) quiet ∙ append-nil (committed_in es)))

-- and the same next stamp and room
pub stamp_kept : (t : ℕ) (x : Item) (es es' : List Entry) → committed_in es' ≡ committed_in es → BearsStamp t (length (inserted es)) x → BearsStamp t (length (inserted es')) x
stamp_kept t x es es' same bears = subst (λ (z : List Event). BearsStamp t (length (flat_map inserted_by z)) x) (sym same) bears

pub room_kept : (quota : ℕ) (es es' : List Entry) → committed_in es' ≡ committed_in es → length (inserted es) < quota → length (inserted es') < quota
room_kept quota es es' same room = subst (λ (z : List Event). length (flat_map inserted_by z) < quota) (sym same) room
