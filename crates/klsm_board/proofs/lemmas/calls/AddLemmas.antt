-- What the calls insert and delete.
use Rattle.std.proofs.Common.{◌≡◌, ℕ, List, [], ◌∷◌, ◌++◌, refl, ap, ◌∙◌}
use Rattle.std.proofs.lemmas.Grind.{flat_map-append}
use Rattle.std.specs.Prelude.{Option, Some, None}
use Rattle.std.specs.List.{flat_map}
use Rattle.klsm_run.specs.declared.item.Item.{Item}
use Rattle.klsm_schedules.specs.declared.step.Event.{Event}
use Rattle.klsm_schedules.specs.declared.step.Entry.{Entry}
use Rattle.klsm_schedules.specs.declared.step.Entry.TheVariants.{Acquired, Looked}
use Rattle.klsm_schedules.specs.OwnSteps.{inserted, inserted_by, deleted, deleted_by, own_part}
use Rattle.klsm_board.specs.Effects.{committed_in}
use Rattle.klsm_board.specs.Entries.{own_acquired, both_acquired, own_looked, both_looked}
use Rattle.klsm_board.proofs.lemmas.calls.EventLemmas.{events_append, same_events}

-- a list that goes on, from one with the same events, by entries with these events
pub goes_on : (es mid fs es' : List Entry) → committed_in mid ≡ committed_in es → es' ≡ mid ++ fs → committed_in es' ≡ committed_in es ++ committed_in fs
goes_on es mid fs es' same is = ap committed_in is ∙ (events_append mid fs ∙ ap (λ z. z ++ committed_in fs) same)

pub inserts : (es es' : List Entry) (added : List Event) → committed_in es' ≡ committed_in es ++ added → inserted es' ≡ inserted es ++ flat_map inserted_by added
inserts es es' added is = ap (flat_map inserted_by) is ∙ flat_map-append inserted_by (committed_in es) added

pub deletes : (es es' : List Entry) (added : List Event) → committed_in es' ≡ committed_in es ++ added → deleted es' ≡ deleted es ++ flat_map deleted_by added
deletes es es' added is = ap (flat_map deleted_by) is ∙ flat_map-append deleted_by (committed_in es) added

-- parts that are acquired bring no event
pub own_quiet : (t : ℕ) (own : List Item) (es : List Entry) → committed_in (own_acquired t own es) ≡ committed_in es
own_quiet t own es = same_events es (Acquired (own_part t) own ∷ []) (own_acquired t own es) refl refl

pub both_quiet : (t : ℕ) (own shared : List Item) (es : List Entry) → committed_in (both_acquired t own shared es) ≡ committed_in es
both_quiet t own shared es =
    same_events (own_acquired t own es) (Acquired 0 shared ∷ []) (both_acquired t own shared es) refl refl ∙ own_quiet t own es

-- nor does a look at the front between
pub look_quiet : (t : ℕ) (own : List Item) (look : Option ℕ) (es : List Entry) → committed_in (own_looked t own look es) ≡ committed_in es
look_quiet t own None es = own_quiet t own es
look_quiet t own (Some front) es =
    same_events (own_acquired t own es) (Looked front ∷ []) (own_looked t own (Some front) es) refl refl ∙ own_quiet t own es

pub both_look_quiet : (t : ℕ) (own : List Item) (look : Option ℕ) (shared : List Item) (es : List Entry) → committed_in (both_looked t own look shared es) ≡ committed_in es
both_look_quiet t own look shared es =
    same_events (own_looked t own look es) (Acquired 0 shared ∷ []) (both_looked t own look shared es) refl refl ∙ look_quiet t own look es
