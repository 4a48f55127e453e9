-- What the calls of a member show in the text.
use Rattle.std.proofs.Common.{◌≡◌, ◌≤◌, ◌⊎◌, ℕ, Bool, suc, List, [], ◌∷◌, ◌++◌, length, length-append, append-nil, refl, ap, ◌∙◌, inl, inr, arith, Option, Some, None}
use Rattle.std.proofs.lemmas.Grind.{flat_map-append}
use Rattle.std.proofs.lemmas.List.Concat.{flat_map-cons}
use Rattle.std.specs.List.{flat_map}
use Rattle.klsm_run.specs.declared.item.Item.{Item}
use Rattle.klsm_schedules.specs.declared.step.Event.{Event}
use Rattle.klsm_schedules.specs.declared.step.Event.TheVariants as event
use Rattle.klsm_schedules.specs.declared.step.Entry.{Entry}
use Rattle.klsm_schedules.specs.declared.step.Entry.TheVariants.{Missed}
use Rattle.klsm_schedules.specs.OwnSteps.{inserted, inserted_by, own_part}
use Rattle.klsm_board.specs.declared.balancing.TheConstants.{MOST_BALANCED}
use Rattle.klsm_board.specs.declared.sizes.Sizes.{Sizes}
use Rattle.klsm_board.specs.declared.errors.InsertError.{InsertError}
use Rattle.klsm_board.specs.declared.errors.TryInsertError.{TryInsertError}
use Rattle.klsm_board.specs.Entries.{own_acquired, both_looked}
use Rattle.klsm_board.specs.Inserting.{Inserts, InsertsWaiting, RefusesInsert, RefusesInsertWaiting, Waits}
use Rattle.klsm_board.specs.Deleting.{Deletes, FindsNothing, AnswersDeletion, AnswersWaiting, victim_of, refilled}
use Rattle.klsm_board.specs.Effects.{committed_in}
use Rattle.klsm_board.specs.Balancing.{HasBalanced}
use Rattle.klsm_board.specs.Stealing.{Balances}
use Rattle.klsm_board.proofs.lemmas.calls.AddLemmas.{own_quiet, both_look_quiet}
use Rattle.klsm_board.proofs.lemmas.calls.AddedLemmas.{puts_events, flushes_events, refused_events, refused_waiting_events}
use Rattle.klsm_board.proofs.lemmas.calls.DeletedLemmas.{takes_events, early_events, spied_events, nothing_events}
use Rattle.klsm_board.proofs.lemmas.calls.EventLemmas.{same_events}
use Rattle.klsm_board.proofs.lemmas.calls.MissLemmas.{waits_quiet}
use Rattle.klsm_board.proofs.lemmas.calls.RefillLemmas.{is_refilled}
use Rattle.klsm_board.proofs.lemmas.calls.StealLemmas.{balances_events}
use Rattle.klsm_text.specs.declared.answer.Answer.{Answer}
use Rattle.klsm_text.specs.declared.answer.Answer.TheVariants.{Inserted, Deleted, Nothing}
use Rattle.klsm_tool.specs.Courses.{BalancesWith}
use Rattle.klsm_tool.specs.Shown.{shown, shown_in}

-- events more show answers more
shows_more : (es es' : List Entry) (added : List Event) → committed_in es' ≡ committed_in es ++ added → shown_in es' ≡ shown_in es ++ flat_map shown added
shows_more es es' added is = ap (flat_map shown) is ∙ flat_map-append shown (committed_in es) added

-- each insertion is shown
pub inserted_within : (es : List Entry) → length (inserted es) ≤ length (shown_in es)
inserted_within es = by_events (committed_in es)
  where
    one : (e : Event) → length (inserted_by e) ≤ length (shown e)
    one (event.Put x) = omega arith
    one (event.Flush x moved) = omega arith
    one (event.Take x) = omega arith
    one (event.Early x front) = omega arith
    one event.Nothing = omega arith
    one (event.Spy victim moved) = omega arith
    one (event.Steal victim moved) = omega arith
    one (event.Refill moved) = omega arith
    one (event.Share moved) = omega arith

    by_events : (all : List Event) → length (flat_map inserted_by all) ≤ length (flat_map shown all)
    by_events [] = omega arith
    by_events (e ∷ all) =
        let more = ap length (flat_map-cons inserted_by e all) ∙ length-append (inserted_by e) (flat_map inserted_by all) in
        let shows = ap length (flat_map-cons shown e all) ∙ length-append (shown e) (flat_map shown all) in
        omega (arith, more, shows, one e, by_events all)

-- what comes after tries that met a lock shows the same as without them
after_waits : (t : ℕ) (Found : List Item → Option ℕ → Type 0) (es now : List Entry) (more : List Answer) → Waits t Found es now → shown_in now ++ more ≡ shown_in es ++ more
after_waits t Found es now more waits = ap (λ z. flat_map shown z ++ more) (waits_quiet t Found es now waits)

-- an insertion shows its item
pub one_shows : (levels k t : ℕ) (es es' : List Entry) (x : Item) → Inserts levels k t es es' x
    → shown_in es' ≡ shown_in es ++ Inserted x ∷ []
one_shows levels k t es es' x (inl puts) = shows_more es es' (event.Put x ∷ []) (puts_events k t es es' x puts)
one_shows levels k t es es' x (inr flushes) =
    shows_more es es' (event.Flush x flushes.moved ∷ []) (flushes_events levels k t es es' x flushes)

pub insertion_shows : (levels k t : ℕ) (es es' : List Entry) (x : Item) → InsertsWaiting levels k t es es' x → shown_in es' ≡ shown_in es ++ Inserted x ∷ []
insertion_shows levels k t es es' x told = one_shows levels k t told.0 es' x told.2 ∙ after_waits t _ es told.0 (Inserted x ∷ []) told.1

-- one that is refused shows nothing
pub refused_shows : (levels k t : ℕ) (es es' : List Entry) (why : TryInsertError) → RefusesInsert ⊥ levels k t es es' why → shown_in es' ≡ shown_in es
refused_shows levels k t es es' why told = ap (flat_map shown) (refused_events levels k t es es' why told)

pub refusal_shows : (levels k t : ℕ) (es es' : List Entry) (why : InsertError) → RefusesInsertWaiting ⊥ levels k t es es' why → shown_in es' ≡ shown_in es
refusal_shows levels k t es es' why told = ap (flat_map shown) (refused_waiting_events levels k t es es' why told)

-- what moves behind a Take is not shown
take_shows : (x : Item) (moved : List Item) → flat_map shown (event.Take x ∷ committed_in (refilled moved)) ≡ Deleted x ∷ []
take_shows x [] = refl
take_shows x (y ∷ moved) = refl

module _ (m : Sizes) (t : ℕ) (own shared : List Item) (look : Option ℕ) (es es' : List Entry) where
  abbrev taken : List Entry
  taken = both_looked t own look shared es

  quiet : committed_in taken ≡ committed_in es
  quiet = both_look_quiet t own look shared es

  -- a deletion from both parts shows its item
  deletion_shows : {P : Type 0} (may_pick : P → ℕ → ℕ → P → Type 0) (before after : P) (x : Item) → Deletes may_pick before after m t own shared taken es' x
      → shown_in es' ≡ shown_in es ++ Deleted x ∷ []
  deletion_shows may_pick before after x (inl takes) =
      let some = is_refilled m.refill m.k own shared x in
      shows_more es es' (event.Take x ∷ committed_in (refilled some.0)) (takes_events m t own shared es taken es' quiet x takes.0 ∙ ap (λ z. committed_in es ++ event.Take x ∷ committed_in z) some.1)
      ∙ ap (λ z. shown_in es ++ z) (take_shows x some.0)
  deletion_shows may_pick before after x (inr takes) =
      shows_more es es' (event.Spy (victim_of m.threads t (suc takes.0.spies.passed)) takes.0.moved ∷ event.Take x ∷ []) (spied_events m t own shared es taken es' quiet x takes.0)

  -- and one that finds nothing shows that
  nothing_shows : FindsNothing m t own shared taken es' → shown_in es' ≡ shown_in es ++ Nothing ∷ []
  nothing_shows finds = shows_more es es' (event.Nothing ∷ []) (nothing_events m t own shared es taken es' quiet finds)

-- what a deletion answered is what it shows
module _ {P : Type 0} (may_pick : P → ℕ → ℕ → P → Type 0) (before after : P) (m : Sizes) (t : ℕ) where
  pub one_item : (es es' : List Entry) (x : Item) → AnswersDeletion may_pick before after m t es es' (Some x) → shown_in es' ≡ shown_in es ++ Deleted x ∷ []
  one_item es es' x (own, inl early) = shows_more es es' (event.Early x early.0.front ∷ []) (early_events m t own es (own_acquired t own es) es' x (own_quiet t own es) early.0)
  one_item es es' x (own, inr both) = deletion_shows m t own both.0 both.1 es es' may_pick before after x both.3

  pub one_none : (es es' : List Entry) → AnswersDeletion may_pick before after m t es es' None → shown_in es' ≡ shown_in es ++ Nothing ∷ []
  one_none es es' (own, inl early) = absurd early.0
  one_none es es' (own, inr both) = nothing_shows m t own both.0 both.1 es es' both.3.0

  pub item_shows : (es es' : List Entry) (x : Item) → AnswersWaiting may_pick before after m t es es' (Some x) → shown_in es' ≡ shown_in es ++ Deleted x ∷ []
  item_shows es es' x told = one_item told.0 es' x told.2 ∙ after_waits t _ es told.0 (Deleted x ∷ []) told.1

  pub none_shows : (es es' : List Entry) → AnswersWaiting may_pick before after m t es es' None → shown_in es' ≡ shown_in es ++ Nothing ∷ []
  none_shows es es' told = one_none told.0 es' told.2 ∙ after_waits t _ es told.0 (Nothing ∷ []) told.1

-- a balance shows nothing
balance_shows : (m : Sizes) (t victim : ℕ) (es es' : List Entry) (moves : Bool) → Balances m t MOST_BALANCED victim es es' moves → shown_in es' ≡ shown_in es
balance_shows m t victim es es' moves did = by_events (balances_events m t MOST_BALANCED victim es es' moves did)
  where
    by_events : (committed_in es' ≡ committed_in es) ⊎ ((moved : List Item) × (committed_in es' ≡ committed_in es ++ event.Steal victim moved ∷ [])) → shown_in es' ≡ shown_in es
    by_events (inl none) = ap (flat_map shown) none
    by_events (inr (moved, one)) = shows_more es es' (event.Steal victim moved ∷ []) one ∙ append-nil (shown_in es)

-- nor does one with none, or one that met the own lock
pub balanced_shows : (m : Sizes) (t : ℕ) (victim : Option ℕ) (es es' : List Entry) → HasBalanced m t victim es es' → shown_in es' ≡ shown_in es
balanced_shows m t None es es' same = ap shown_in same
balanced_shows m t (Some victim) es es' (inl did) = balance_shows m t victim es es' did.0 did.1
balanced_shows m t (Some victim) es es' (inr missed) = ap (flat_map shown) (same_events es (Missed (own_part t) missed.0.by ∷ []) es' missed.1.steps refl)

pub balanced_in_one_hand_shows : (m : Sizes) (t : ℕ) (victim : Option ℕ) (es es' : List Entry) → BalancesWith m t victim es es' → shown_in es' ≡ shown_in es
balanced_in_one_hand_shows m t None es es' same = ap shown_in same
balanced_in_one_hand_shows m t (Some victim) es es' did = balance_shows m t victim es es' did.0 did.1
