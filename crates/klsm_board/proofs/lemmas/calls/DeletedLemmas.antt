-- The events of a deletion's entries.
use Rattle.std.proofs.Common.{◌≡◌, ℕ, zero, suc, ◌-◌, true, false, true≢false, length, List, [], ◌∷◌, ◌++◌, sym, refl, ap, ◌∙◌, inl, inr, append_assoc}
use Rattle.std.specs.Prelude.{MatchOption, IsSomeAnd, Option, Some, None}
use Rattle.std.specs.List.{flat_map}
use Rattle.std.proofs.lemmas.List.{append-nil}
use Rattle.std.proofs.lemmas.List.Concat.{flat_map-cons}
use Rattle.std.specs.Option.{is_some, option_to_list}
use Rattle.klsm_run.specs.declared.item.Item.{Item}
use Rattle.klsm_schedules.specs.declared.step.Event.{Event}
use Rattle.klsm_schedules.specs.declared.step.Event.TheVariants.{Take, Early, Nothing, Spy}
use Rattle.klsm_schedules.specs.declared.step.Entry.{Entry}
use Rattle.klsm_schedules.specs.declared.step.Entry.TheVariants.{Acquired, Committed, Released}
use Rattle.klsm_schedules.specs.OwnSteps.{no_key, own_part, event_at, inserted, inserted_by, deleted, deleted_by}
use Rattle.klsm_board.specs.Effects.{committed_in}
use Rattle.klsm_board.specs.declared.sizes.Sizes.{Sizes}
use Rattle.klsm_board.specs.declared.errors.Busy.{Busy}
use Rattle.klsm_board.specs.Entries.{own_acquired, own_marked, both_marked, both_looked}
use Rattle.klsm_board.specs.Deleting.{Passes, PassesBy, SpiesAfter, TakesOut, TakesEarly, TakesSpied, FindsNothing, Deletes, AnswersDeletion, MissesDeletion, victim_of, refilled, refilled_after, moving_at_most}
use Rattle.klsm_board.proofs.lemmas.calls.EventLemmas.{IsQuiet, events_append, quiet_append, same_events}
use Rattle.klsm_board.proofs.lemmas.calls.AddLemmas.{goes_on, inserts, deletes, own_quiet, both_look_quiet}
use Rattle.klsm_board.specs.Boards.{Gains}
use Rattle.klsm_board.proofs.lemmas.calls.MissLemmas.{misses_quiet}
use Rattle.klsm_board.proofs.lemmas.calls.AddedLemmas.{quiet_gains}
use Rattle.klsm_board.proofs.lemmas.calls.RefillLemmas.{is_refilled}

-- a board's own sizes
pub own_refill : (m : Sizes) → moving_at_most m.refill m ≡ m
own_refill m = refl

-- victims that were passed by
pass_is_quiet : (victim : ℕ) (added : List Entry) → PassesBy victim added → IsQuiet added
pass_is_quiet victim added (inl miss) = ap committed_in miss.1
pass_is_quiet victim added (inr empty) = ap committed_in empty

pub passes_are_quiet : (threads t n : ℕ) (added : List Entry) → Passes threads t n added → IsQuiet added
passes_are_quiet threads t zero added none = ap committed_in none
passes_are_quiet threads t (suc n) added some =
    ap committed_in some.4 ∙ quiet_append some.0 some.1 (passes_are_quiet threads t n some.0 some.2) (pass_is_quiet (victim_of threads t (suc n)) some.1 some.3)

-- items that were spied are neither inserted nor deleted
pub spies_events : (threads t : ℕ) (es es' : List Entry) (moved : List Item) → (s : SpiesAfter threads t es es' moved) → committed_in es' ≡ committed_in es ++ Spy (victim_of threads t (suc s.passed)) moved ∷ []
spies_events threads t es es' moved spies =
    let one = spies.spies in let v : ℕ = victim_of threads t (suc spies.passed) in
    goes_on es (es ++ spies.added) (Acquired (own_part v) one.found ∷ Committed (Spy v moved) ∷ Released (own_part v) ∷ []) es' (same_events es spies.added (es ++ spies.added) refl (passes_are_quiet threads t spies.passed spies.added spies.passes)) one.steps

pub spies_same : (threads t : ℕ) (es es' : List Entry) (moved : List Item) → SpiesAfter threads t es es' moved → (inserted es' ≡ inserted es) × (deleted es' ≡ deleted es)
spies_same threads t es es' moved spies =
    let added : List Event = Spy (victim_of threads t (suc spies.passed)) moved ∷ [] in
    let e = spies_events threads t es es' moved spies in
    (inserts es es' added e ∙ append-nil (inserted es), deletes es es' added e ∙ append-nil (deleted es))

-- a list that gained these events
gained : (es es' : List Entry) (added : List Event) (ins dels : List Item) → committed_in es' ≡ committed_in es ++ added → (ins ≡ Rattle.std.specs.List.flat_map Rattle.klsm_schedules.specs.OwnSteps.inserted_by added) → (dels ≡ Rattle.std.specs.List.flat_map Rattle.klsm_schedules.specs.OwnSteps.deleted_by added) → Gains es es' ins dels
gained es es' added ins dels e i d = record {
  inserted_are = inserts es es' added e ∙ ap (λ z. Rattle.klsm_schedules.specs.OwnSteps.inserted es ++ z) (sym i);
  deleted_are = deletes es es' added e ∙ ap (λ z. Rattle.klsm_schedules.specs.OwnSteps.deleted es ++ z) (sym d);
}

-- items that move behind a Take are neither inserted nor deleted
none_more : (x : Item) (moved : List Item) → ([] ≡ flat_map inserted_by (Take x ∷ committed_in (refilled moved))) × (x ∷ [] ≡ flat_map deleted_by (Take x ∷ committed_in (refilled moved)))
none_more x [] = (refl, refl)
none_more x (y ∷ moved) = (refl, refl)

module _ (m : Sizes) (t : ℕ) (own shared : List Item) (es acquired es' : List Entry) (quiet : committed_in acquired ≡ committed_in es) where
  pub takes_events : (x : Item) → TakesOut m t own shared acquired es' x → committed_in es' ≡ committed_in es ++ Take x ∷ committed_in (refilled_after m.refill m.k own shared x)
  takes_events x takes =
      let added : List Entry = refilled_after m.refill m.k own shared x in
      let behind : committed_in (added ++ both_marked t x.key) ≡ committed_in added = events_append added (both_marked t x.key) ∙ append-nil (committed_in added) in
      goes_on es acquired (Committed (Take x) ∷ (added ++ both_marked t x.key)) es' quiet takes.steps
      ∙ ap (λ z. committed_in es ++ z) (flat_map-cons event_at (Committed (Take x)) (added ++ both_marked t x.key) ∙ ap (λ z. Take x ∷ z) behind)

  takes_gain : (x : Item) → TakesOut m t own shared acquired es' x → Gains es es' [] (x ∷ [])
  takes_gain x takes =
      let some = is_refilled m.refill m.k own shared x in
      let none = none_more x some.0 in
      gained es es' (Take x ∷ committed_in (refilled some.0)) [] (x ∷ []) (takes_events x takes ∙ ap (λ z. committed_in es ++ Take x ∷ committed_in z) some.1) none.0 none.1

  pub spied_events : (x : Item) → (takes : TakesSpied m t own shared acquired es' x) → committed_in es' ≡ committed_in es ++ Spy (victim_of m.threads t (suc takes.spies.passed)) takes.moved ∷ Take x ∷ []
  spied_events x takes =
      let spies = takes.spies in
      let v : ℕ = victim_of m.threads t (suc spies.passed) in
      let spied : committed_in takes.spied ≡ committed_in es ++ Spy v takes.moved ∷ [] = spies_events m.threads t acquired takes.spied takes.moved spies ∙ ap (λ z. z ++ Spy v takes.moved ∷ []) quiet in
      ap committed_in takes.steps ∙ (events_append takes.spied (Committed (Take x) ∷ both_marked t x.key) ∙ (ap (λ z. z ++ Take x ∷ []) spied ∙ append_assoc (committed_in es) (Spy v takes.moved ∷ []) (Take x ∷ [])))

  spied_gain : (x : Item) → TakesSpied m t own shared acquired es' x → Gains es es' [] (x ∷ [])
  spied_gain x takes = gained es es' (Spy (victim_of m.threads t (suc takes.spies.passed)) takes.moved ∷ Take x ∷ []) [] (x ∷ []) (spied_events x takes) refl refl

  pub nothing_events : FindsNothing m t own shared acquired es' → committed_in es' ≡ committed_in es ++ Nothing ∷ []
  nothing_events finds =
      let passed : committed_in (acquired ++ finds.added) ≡ committed_in es = same_events acquired finds.added (acquired ++ finds.added) refl (passes_are_quiet m.threads t (m.threads - 1) finds.added finds.passes) ∙ quiet in
      goes_on es (acquired ++ finds.added) (Committed Nothing ∷ both_marked t no_key) es' passed finds.steps

  nothing_gains : FindsNothing m t own shared acquired es' → Gains es es' [] []
  nothing_gains finds = gained es es' (Nothing ∷ []) [] [] (nothing_events finds) refl refl

  deletes_gain : {P : Type 0} (may_pick : P → ℕ → ℕ → P → Type 0) (before after : P) (x : Item) → Deletes may_pick before after m t own shared acquired es' x → Gains es es' [] (x ∷ [])
  deletes_gain may_pick before after x (inl takes) = takes_gain x takes.0
  deletes_gain may_pick before after x (inr takes) = spied_gain x takes.0

  -- what a deletion answered is what the list deletes more
  answer_gains : {P : Type 0} (may_pick : P → ℕ → ℕ → P → Type 0) (before after : P) (answer : Option Item) → MatchOption answer (FindsNothing m t own shared acquired es' × (after ≡ before)) (Deletes may_pick before after m t own shared acquired es')
      → Gains es es' [] (option_to_list answer)
  answer_gains may_pick before after None outcome = nothing_gains outcome.0
  answer_gains may_pick before after (Some x) outcome = deletes_gain may_pick before after x outcome

pub early_events : (m : Sizes) (t : ℕ) (own : List Item) (es acquired es' : List Entry) (x : Item) → committed_in acquired ≡ committed_in es → (outcome : TakesEarly m t own acquired es' x) → committed_in es' ≡ committed_in es ++ Early x outcome.front ∷ []
early_events m t own es acquired es' x quiet outcome = goes_on es acquired (Committed (Early x outcome.front) ∷ own_marked t x.key) es' quiet outcome.steps

early_gains : (m : Sizes) (t : ℕ) (own : List Item) (es acquired es' : List Entry) (answer : Option Item) → committed_in acquired ≡ committed_in es → IsSomeAnd answer (λ x. TakesEarly m t own acquired es' x) → Gains es es' [] (option_to_list answer)
early_gains m t own es acquired es' None quiet outcome = absurd outcome
early_gains m t own es acquired es' (Some x) quiet outcome = gained es es' (Early x outcome.front ∷ []) [] (x ∷ []) (early_events m t own es acquired es' x quiet outcome) refl refl

-- and so it is of each of the ways to answer
pub answers_gain : {P : Type 0} (may_pick : P → ℕ → ℕ → P → Type 0) (before after : P) (m : Sizes) (t : ℕ) (es es' : List Entry) (answer : Option Item)
    → AnswersDeletion may_pick before after m t es es' answer → Gains es es' [] (option_to_list answer)
answers_gain may_pick before after m t es es' answer (own, inl early) =
    early_gains m t own es (own_acquired t own es) es' answer (own_quiet t own es) early.0
answers_gain may_pick before after m t es es' answer (own, inr both) =
    answer_gains m t own both.0 es (both_looked t own both.1 both.0 es) es' (both_look_quiet t own both.1 both.0 es) may_pick before after answer both.3

-- how many items were answered
pub some_is_one : {A : Type 0} (o : Option A) → is_some o ≡ true → length (option_to_list o) ≡ 1
some_is_one None is = absurd (true≢false (sym is))
some_is_one (Some a) is = refl

pub none_is_zero : {A : Type 0} (o : Option A) → is_some o ≡ false → length (option_to_list o) ≡ 0
none_is_zero None is = refl
none_is_zero (Some a) is = absurd (true≢false is)

-- a deletion that met a lock that was held
pub misses_gain : (t : ℕ) (es es' : List Entry) (busy : Busy) → MissesDeletion t es es' busy → Gains es es' [] []
misses_gain t es es' busy outcome = quiet_gains es es' (misses_quiet t _ es es' busy outcome)
