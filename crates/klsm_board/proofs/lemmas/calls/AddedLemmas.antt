-- The events of each call's entries.
use Rattle.std.proofs.Common.{◌≡◌, ℕ, ◌+◌, List, [], ◌∷◌, ◌++◌, length, sym, refl, ap, ◌∙◌, inl, inr, arith, Result, Ok, Err, IfErr, IsErrAnd}
use Rattle.std.proofs.lemmas.List.{append-nil, length-append}
use Rattle.std.specs.List.{flat_map}
use Rattle.klsm_run.specs.declared.item.Item.{Item}
use Rattle.klsm_schedules.specs.declared.step.Event.{Event}
use Rattle.klsm_schedules.specs.declared.step.Event.TheVariants.{Put, Flush}
use Rattle.klsm_schedules.specs.declared.step.Entry.{Entry}
use Rattle.klsm_schedules.specs.declared.step.Entry.TheVariants.{Committed, Released}
use Rattle.klsm_schedules.specs.OwnSteps.{inserted, inserted_by, deleted, deleted_by, own_part}
use Rattle.klsm_board.specs.Effects.{committed_in}
use Rattle.klsm_board.specs.declared.errors.TryInsertError.{TryInsertError}
use Rattle.klsm_board.specs.declared.errors.TryInsertError.TheVariants as try_insert
use Rattle.klsm_board.specs.declared.errors.InsertError.{InsertError}
use Rattle.klsm_board.specs.declared.errors.InsertError.TheVariants as insert
use Rattle.klsm_board.specs.Boards.{Gains}
use Rattle.klsm_board.specs.Entries.{own_acquired, both_acquired, both_released}
use Rattle.klsm_board.specs.Inserting.{Puts, Flushes, GivesUp, Inserts, LacksRoom, IsBelowLimit, RefusesInsert, RefusesInsertWaiting}
use Rattle.klsm_board.proofs.lemmas.calls.EventLemmas.{IsQuiet, same_events}
use Rattle.klsm_board.proofs.lemmas.calls.MissLemmas.{misses_quiet, waits_quiet}
use Rattle.klsm_board.proofs.lemmas.calls.AddLemmas.{goes_on, inserts, deletes, own_quiet, both_quiet}

-- an insertion
pub puts_events : (k t : ℕ) (es es' : List Entry) (x : Item) → Puts k t es es' x → committed_in es' ≡ committed_in es ++ Put x ∷ []
puts_events k t es es' x puts =
    goes_on es (own_acquired t puts.own es) (Committed (Put x) ∷ Released (own_part t) ∷ []) es' (own_quiet t puts.own es) puts.steps

puts_gain : (k t : ℕ) (es es' : List Entry) (x : Item) → Puts k t es es' x → Gains es es' (x ∷ []) []
puts_gain k t es es' x puts =
    let added : List Event = Put x ∷ [] in
    let e = puts_events k t es es' x puts in
    record { inserted_are = inserts es es' added e; deleted_are = deletes es es' added e }

pub flushes_events : (levels k t : ℕ) (es es' : List Entry) (x : Item) → (f : Flushes levels k t es es' x) → committed_in es' ≡ committed_in es ++ Flush x f.moved ∷ []
flushes_events levels k t es es' x f =
    goes_on es (both_acquired t f.own f.shared es) (Committed (Flush x f.moved) ∷ both_released t) es' (both_quiet t f.own f.shared es) f.steps

flushes_gain : (levels k t : ℕ) (es es' : List Entry) (x : Item) → Flushes levels k t es es' x → Gains es es' (x ∷ []) []
flushes_gain levels k t es es' x f =
    let added : List Event = Flush x f.moved ∷ [] in
    let e = flushes_events levels k t es es' x f in
    record { inserted_are = inserts es es' added e; deleted_are = deletes es es' added e }

pub inserts_gain : (levels k t : ℕ) (es es' : List Entry) (x : Item) → Inserts levels k t es es' x → Gains es es' (x ∷ []) []
inserts_gain levels k t es es' x (inl puts) = puts_gain k t es es' x puts
inserts_gain levels k t es es' x (inr f) = flushes_gain levels k t es es' x f

-- entries without an event
pub quiet_gains : (es es' : List Entry) → committed_in es' ≡ committed_in es → Gains es es' [] []
quiet_gains es es' same =
    let e : committed_in es' ≡ committed_in es ++ [] = same ∙ sym (append-nil (committed_in es)) in
    record { inserted_are = inserts es es' [] e; deleted_are = deletes es es' [] e }

-- entries without an event behind a list leave it its insertions and deletions
pub record Same (es es' : List Entry) : Type 0 where
  pub inserted_are : inserted es' ≡ inserted es
  pub deleted_are : deleted es' ≡ deleted es

pub quiet_same : (es fs es' : List Entry) → es' ≡ es ++ fs → IsQuiet fs → Same es es'
quiet_same es fs es' is quiet =
    let same : committed_in es' ≡ committed_in es = same_events es fs es' is quiet in
    record { inserted_are = ap (flat_map inserted_by) same; deleted_are = ap (flat_map deleted_by) same }

-- a call that gave up
gives_up_events : (k t : ℕ) (es es' : List Entry) (Lacks : List Item → Type 0) → GivesUp k t es es' Lacks → committed_in es' ≡ committed_in es
gives_up_events k t es es' Lacks up =
    same_events (both_acquired t up.own up.shared es) (both_released t) es' up.steps refl ∙ both_quiet t up.own up.shared es

-- how many these are
pub gained_counts : (es es' : List Entry) (ins dels : List Item) (i d : ℕ) → Gains es es' ins dels → length (inserted es) ≡ i → length (deleted es) ≡ d
    → (length (inserted es') ≡ i + length ins) × (length (deleted es') ≡ d + length dels)
gained_counts es es' ins dels i d gains counts counts' =
    let a = ap (λ (z : List Item). length z) gains.inserted_are ∙ length-append (inserted es) ins in
    let b = ap (λ (z : List Item). length z) gains.deleted_are ∙ length-append (deleted es) dels in
    (omega (arith, a, counts), omega (arith, b, counts'))

-- why a try to insert was refused, once it began
pub refused_events : (levels k t : ℕ) (es es' : List Entry) (why : TryInsertError) → RefusesInsert ⊥ levels k t es es' why → committed_in es' ≡ committed_in es
refused_events levels k t es es' try_insert.Spent outcome = absurd outcome.0
refused_events levels k t es es' (try_insert.Busy busy) outcome = misses_quiet t _ es es' busy outcome
refused_events levels k t es es' try_insert.Full outcome = gives_up_events k t es es' (LacksRoom levels k) outcome
refused_events levels k t es es' try_insert.NoMemory outcome = gives_up_events k t es es' (IsBelowLimit levels) outcome

pub refused_gains : (levels k t : ℕ) (es es' : List Entry) (why : TryInsertError) → RefusesInsert ⊥ levels k t es es' why → Gains es es' [] []
refused_gains levels k t es es' why outcome = quiet_gains es es' (refused_events levels k t es es' why outcome)

-- the same of an insertion that may wait
pub refused_waiting_events : (levels k t : ℕ) (es es' : List Entry) (why : InsertError) → RefusesInsertWaiting ⊥ levels k t es es' why → committed_in es' ≡ committed_in es
refused_waiting_events levels k t es es' insert.Spent outcome = absurd outcome.0
refused_waiting_events levels k t es es' insert.Full outcome = gives_up_events k t outcome.0 es' (LacksRoom levels k) outcome.2 ∙ waits_quiet t _ es outcome.0 outcome.1
refused_waiting_events levels k t es es' insert.NoMemory outcome = gives_up_events k t outcome.0 es' (IsBelowLimit levels) outcome.2 ∙ waits_quiet t _ es outcome.0 outcome.1

pub refused_waiting_gains : (levels k t : ℕ) (es es' : List Entry) (why : InsertError) → RefusesInsertWaiting ⊥ levels k t es es' why → Gains es es' [] []
refused_waiting_gains levels k t es es' why outcome = quiet_gains es es' (refused_waiting_events levels k t es es' why outcome)

-- a member that began the call is not one that may insert no more
pub began : (Spent : Type 0) (levels k t : ℕ) (es es' : List Entry) (why : TryInsertError) → RefusesInsert ⊥ levels k t es es' why → RefusesInsert Spent levels k t es es' why
began Spent levels k t es es' try_insert.Spent outcome = absurd outcome.0
began Spent levels k t es es' (try_insert.Busy busy) outcome = outcome
began Spent levels k t es es' try_insert.Full outcome = outcome
began Spent levels k t es es' try_insert.NoMemory outcome = outcome

-- what is said of an error that was passed on
pub passed_on : {T E : Type 0} (r : Result T E) (Q P : E → Type 0) → IsErrAnd r Q → ((why : E) → Q why → P why) → IfErr r P
passed_on (Ok x) Q P is all = tt
passed_on (Err why) Q P is all = all why is

pub of_error : {T E R : Type 0} (r : Result T E) (Q P : E → Type 0) → IsErrAnd r Q → IsErrAnd r P → ((why : E) → Q why → P why → R) → R
of_error (Ok x) Q P is is' all = absurd is
of_error (Err why) Q P is is' all = all why is is'
