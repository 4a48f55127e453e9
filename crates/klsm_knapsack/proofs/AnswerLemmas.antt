-- What a call of a member leaves at the end of its list, and which events the list gains.
use Rattle.std.proofs.Common.{◌≡◌, ◌≢◌, ℕ, suc, inl, inr, List, [], ◌∷◌, ◌++◌, Option, Some, None, sym, ap, ◌∙◌, append_assoc, arith}
use Rattle.std.specs.List.{AllByRecursion}
use Rattle.klsm_run.specs.declared.item.Item.{Item}
use Rattle.klsm_schedules.specs.declared.step.Event.{Event}
use Rattle.klsm_schedules.specs.declared.step.Event.TheVariants.{Put, Flush, Take, Early, Nothing, Spy, Refill}
use Rattle.klsm_schedules.specs.declared.step.Entry.{Entry}
use Rattle.klsm_schedules.specs.declared.step.Entry.TheVariants.{Committed, Released}
use Rattle.klsm_schedules.specs.OwnSteps.{no_key, own_part, work_at, work_of}
use Rattle.klsm_board.specs.declared.sizes.Sizes.{Sizes}
use Rattle.klsm_board.specs.Inserting.{FindsFull, GivesUp, Inserts, InsertsWaiting, Waits}
use Rattle.klsm_board.specs.Deleting.{Deletes, FindsNothing, AnswersDeletion, AnswersWaiting, victim_of, refilled}
use Rattle.klsm_board.specs.Entries.{own_acquired, own_marked, both_acquired, both_looked, both_marked, both_released}
use Rattle.klsm_board.proofs.lemmas.calls.AddLemmas.{goes_on, own_quiet, both_quiet, both_look_quiet}
use Rattle.klsm_board.specs.Effects.{committed_in}
use Rattle.klsm_board.proofs.lemmas.calls.MissLemmas.{waits_quiet}
use Rattle.klsm_board.proofs.lemmas.calls.RefillLemmas.{is_refilled}
use Rattle.klsm_board.proofs.lemmas.calls.DeletedLemmas.{takes_events, spied_events, nothing_events, early_events}
use Rattle.klsm_board.proofs.lemmas.hands.WorkLemmas.{work_more}
use Rattle.klsm_knapsack.specs.Ends.{EndsAnswered, work_behind}
use Rattle.klsm_knapsack.specs.Answers.{GainsNothing, GainsOthers, GainsSome}

pub after_insertion : (levels k t : ℕ) (es es' : List Entry) (x : Item) → Inserts levels k t es es' x → EndsAnswered t es'
after_insertion levels k t es es' x (inl puts) = inr (own_acquired t puts.own es, Put x, inl puts.steps)
after_insertion levels k t es es' x (inr flushes) = inr (both_acquired t flushes.own flushes.shared es, Flush x flushes.moved, inr (inl flushes.steps))

-- what a thread works at behind an event is told by that
works_behind : (before : List Entry) (event : Event) → work_behind before event ≡ work_at (work_of before) event
works_behind before event = work_more before (Committed event)

-- both parts were released behind an event, and between them the key marked that the thread then works at
marked_behind : (t : ℕ) (before es' : List Entry) (event : Event) (key : ℕ) → work_behind before event ≡ key → es' ≡ before ++ Committed event ∷ both_marked t key → EndsAnswered t es'
marked_behind t before es' event key works steps = inr (before, event, inr (inr (inr (steps ∙ ap (λ n. before ++ Committed event ∷ both_marked t n) (sym works)))))

-- items may have moved behind a Take
after_take : (t : ℕ) (taken es' : List Entry) (x : Item) (moved : List Item) → es' ≡ taken ++ Committed (Take x) ∷ (refilled moved ++ both_marked t x.key) → EndsAnswered t es'
after_take t taken es' x [] steps = marked_behind t taken es' (Take x) x.key (works_behind taken (Take x)) steps
after_take t taken es' x (y ∷ moved) steps =
    let before : List Entry = taken ++ Committed (Take x) ∷ [] in
    marked_behind t before es' (Refill (y ∷ moved)) x.key (works_behind before (Refill (y ∷ moved)) ∙ works_behind taken (Take x))
    (steps ∙ sym (append_assoc taken (Committed (Take x) ∷ []) (Committed (Refill (y ∷ moved)) ∷ both_marked t x.key)))

after_deletion : {P : Type 0} (may_pick : P → ℕ → ℕ → P → Type 0) (before after : P) (m : Sizes) (t : ℕ) (own shared : List Item) (taken es' : List Entry) (x : Item) → Deletes may_pick before after m t own shared taken es' x → EndsAnswered t es'
after_deletion may_pick before after m t own shared taken es' x (inl takes) =
    let some = is_refilled m.refill m.k own shared x in
    after_take t taken es' x some.0 (takes.0.steps ∙ ap (λ z. taken ++ Committed (Take x) ∷ (z ++ both_marked t x.key)) some.1)
after_deletion may_pick before after m t own shared taken es' x (inr takes) =
    marked_behind t takes.0.spied es' (Take x) x.key (works_behind takes.0.spied (Take x)) takes.0.steps

after_nothing : (m : Sizes) (t : ℕ) (own shared : List Item) (taken es' : List Entry) → FindsNothing m t own shared taken es' → EndsAnswered t es'
after_nothing m t own shared taken es' finds =
    marked_behind t (taken ++ finds.added) es' Nothing no_key (works_behind (taken ++ finds.added) Nothing) finds.steps

-- the same of a deletion, however it went
pub after_answer : {P : Type 0} (may_pick : P → ℕ → ℕ → P → Type 0) (before after : P) (m : Sizes) (t : ℕ) (es es' : List Entry) (answer : Option Item) → AnswersDeletion may_pick before after m t es es' answer → EndsAnswered t es'
after_answer may_pick before after m t es es' None (own, inl early) = absurd early.0
after_answer may_pick before after m t es es' (Some x) (own, inl early) =
    let taken : List Entry = own_acquired t own es in
    let works : work_behind taken (Early x early.0.front) ≡ x.key = works_behind taken (Early x early.0.front) in
    inr (taken, Early x early.0.front, inr (inr (inl (early.0.steps ∙ ap (λ n. taken ++ Committed (Early x early.0.front) ∷ own_marked t n) (sym works)))))
after_answer may_pick before after m t es es' None (own, inr both) = after_nothing m t own both.0 (both_looked t own both.1 both.0 es) es' both.3.0
after_answer may_pick before after m t es es' (Some x) (own, inr both) =
    after_deletion may_pick before after m t own both.0 (both_looked t own both.1 both.0 es) es' x both.3

-- and of one that gave an item
pub after_item : {P : Type 0} (may_pick : P → ℕ → ℕ → P → Type 0) (before after : P) (m : Sizes) (t : ℕ) (es es' : List Entry) (x : Item) → AnswersWaiting may_pick before after m t es es' (Some x) → EndsAnswered t es'
after_item may_pick before after m t es es' x told = after_answer may_pick before after m t told.0 es' (Some x) told.2

-- and of one that gave none
pub after_none : {P : Type 0} (may_pick : P → ℕ → ℕ → P → Type 0) (before after : P) (m : Sizes) (t : ℕ) (es es' : List Entry) → AnswersWaiting may_pick before after m t es es' None → EndsAnswered t es'
after_none may_pick before after m t es es' told = after_answer may_pick before after m t told.0 es' None told.2

-- a list that goes on quietly gains what it gains later
later : (es now es' : List Entry) → committed_in now ≡ committed_in es → GainsOthers now es' → GainsOthers es es'
later es now es' same gains = record { gained = gains.gained; others = gains.others; events = gains.events ∙ ap (λ z. z ++ gains.gained) same }

-- an insertion gains one event, and no answer "nothing"
one_insertion : (levels k t : ℕ) (es es' : List Entry) (x : Item) → Inserts levels k t es es' x → GainsOthers es es'
one_insertion levels k t es es' x (inl puts) = record {
  gained = Put x ∷ [];
  others = (λ is. cc, tt);
  events = goes_on es (own_acquired t puts.own es) (Committed (Put x) ∷ Released (own_part t) ∷ []) es' (own_quiet t puts.own es) puts.steps;
}
one_insertion levels k t es es' x (inr flushes) = record {
  gained = Flush x flushes.moved ∷ [];
  others = (λ is. cc, tt);
  events = goes_on es (both_acquired t flushes.own flushes.shared es) (Committed (Flush x flushes.moved) ∷ both_released t) es' (both_quiet t flushes.own flushes.shared es) flushes.steps;
}

pub insertion_gains : (levels k t : ℕ) (es es' : List Entry) (x : Item) → InsertsWaiting levels k t es es' x → GainsOthers es es'
insertion_gains levels k t es es' x told = later es told.0 es' (waits_quiet t _ es told.0 told.1) (one_insertion levels k t told.0 es' x told.2)

-- one that is refused gains none
one_refusal : (k t : ℕ) (es es' : List Entry) (Found : List Item → Type 0) → GivesUp k t es es' Found → GainsOthers es es'
one_refusal k t es es' Found gives = record {
  gained = [];
  others = tt;
  events = goes_on es (both_acquired t gives.own gives.shared es) (both_released t) es' (both_quiet t gives.own gives.shared es) gives.steps;
}

pub refusal_gains : (k t : ℕ) (es es' : List Entry) (Found : List Item → Type 0) → (now : List Entry) × Waits t (FindsFull k) es now × GivesUp k t now es' Found → GainsOthers es es'
refusal_gains k t es es' Found told = later es told.0 es' (waits_quiet t _ es told.0 told.1) (one_refusal k t told.0 es' Found told.2)

-- neither a Take nor what moves behind it is an answer "nothing"
take_and_more : (x : Item) (moved : List Item) → AllByRecursion (λ event. event ≢ Nothing) (Take x ∷ committed_in (refilled moved))
take_and_more x [] = (λ is. cc, tt)
take_and_more x (y ∷ moved) = (λ is. cc, (λ is. cc, tt))

-- so it is with a deletion that gave an item
one_deletion : {P : Type 0} (may_pick : P → ℕ → ℕ → P → Type 0) (before after : P) (m : Sizes) (t : ℕ) (es es' : List Entry) (x : Item)
    → AnswersDeletion may_pick before after m t es es' (Some x) → GainsSome es es'
one_deletion may_pick before after m t es es' x (own, inl early) = record {
  gains = record {
    gained = Early x early.0.front ∷ [];
    others = (λ is. cc, tt);
    events = early_events m t own es (own_acquired t own es) es' x (own_quiet t own es) early.0;
  };
  some = omega arith;
}
one_deletion may_pick before after m t es es' x (own, inr (shared, look, past, inl takes)) = record {
  gains = record {
    gained = Take x ∷ committed_in (refilled (is_refilled m.refill m.k own shared x).0);
    others = take_and_more x (is_refilled m.refill m.k own shared x).0;
    events = takes_events m t own shared es (both_looked t own look shared es) es' (both_look_quiet t own look shared es) x takes.0
        ∙ ap (λ z. committed_in es ++ Take x ∷ committed_in z) (is_refilled m.refill m.k own shared x).1;
  };
  some = omega arith;
}
one_deletion may_pick before after m t es es' x (own, inr (shared, look, past, inr takes)) = record {
  gains = record {
    gained = Spy (victim_of m.threads t (suc takes.0.spies.passed)) takes.0.moved ∷ Take x ∷ [];
    others = (λ is. cc, (λ is. cc, tt));
    events = spied_events m t own shared es (both_looked t own look shared es) es' (both_look_quiet t own look shared es) x takes.0;
  };
  some = omega arith;
}

pub deletion_gains : {P : Type 0} (may_pick : P → ℕ → ℕ → P → Type 0) (before after : P) (m : Sizes) (t : ℕ) (es es' : List Entry) (x : Item)
    → AnswersWaiting may_pick before after m t es es' (Some x) → GainsSome es es'
unfolding later one_deletion
deletion_gains may_pick before after m t es es' x told =
    let gains = one_deletion may_pick before after m t told.0 es' x told.2 in
    record { gains = later es told.0 es' (waits_quiet t _ es told.0 told.1) gains.gains; some = gains.some }

-- and one that gave none gains an answer "nothing"
one_nothing : {P : Type 0} (may_pick : P → ℕ → ℕ → P → Type 0) (before after : P) (m : Sizes) (t : ℕ) (es es' : List Entry)
    → AnswersDeletion may_pick before after m t es es' None → GainsNothing es es'
one_nothing may_pick before after m t es es' (own, inl early) = absurd early.0
one_nothing may_pick before after m t es es' (own, inr both) =
    nothing_events m t own both.0 es (both_looked t own both.1 both.0 es) es' (both_look_quiet t own both.1 both.0 es) both.3.0

pub no_deletion_gains : {P : Type 0} (may_pick : P → ℕ → ℕ → P → Type 0) (before after : P) (m : Sizes) (t : ℕ) (es es' : List Entry)
    → AnswersWaiting may_pick before after m t es es' None → GainsNothing es es'
no_deletion_gains may_pick before after m t es es' told =
    one_nothing may_pick before after m t told.0 es' told.2 ∙ ap (λ z. z ++ Nothing ∷ []) (waits_quiet t _ es told.0 told.1)
