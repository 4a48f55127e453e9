-- How many answers "nothing" the events of a list end with, as the list goes on.
use Rattle.std.proofs.Common.{◌≡◌, ◌≢◌, ℕ, ◌+◌, ◌<◌, List, [], ◌∷◌, ◌++◌, length, replicate, append_assoc, refl, sym, ap, ◌∙◌, subst, arith}
use Rattle.std.specs.List.{AllByRecursion}
use Rattle.std.proofs.lemmas.List.{append-nil, length-append, replicate_more}
use Rattle.klsm_schedules.specs.declared.step.Event.{Event}
use Rattle.klsm_schedules.specs.declared.step.Event.TheVariants.{Nothing}
use Rattle.klsm_schedules.specs.declared.step.Entry.{Entry}
use Rattle.klsm_board.specs.Effects.{committed_in}
use Rattle.klsm_knapsack.specs.Answers.{EndsIdle, GainsNothing, GainsOthers, GainsSome}

-- no answers "nothing"
abbrev AreOthers : List Event → Type 0
AreOthers events = AllByRecursion (λ event. event ≢ Nothing) events

others_both : (xs ys : List Event) → AreOthers xs → AreOthers ys → AreOthers (xs ++ ys)
others_both [] ys first second = second
others_both (x ∷ xs) ys first second = (first.0, others_both xs ys first.1 second)

not_last : (xs : List Event) → AreOthers (xs ++ Nothing ∷ []) → ⊥
not_last [] others = others.0 refl
not_last (x ∷ xs) others = not_last xs others.1

abbrev first_of : List Event → Event
first_of [] = Nothing
first_of (x ∷ xs) = x

abbrev rest_of : List Event → List Event
rest_of [] = []
rest_of (x ∷ xs) = xs

-- a list does not end so where it goes on with some others
some_last : (xs more others : List Event) → AreOthers more → 0 < length more → xs ++ more ≢ others ++ Nothing ∷ []
some_last [] more others are some is = not_last others (subst AreOthers is are)
some_last (x ∷ xs) more [] are some is = omega (arith, ap length is, length-append xs more, some)
some_last (x ∷ xs) more (y ∷ others) are some is = some_last xs more others are some (ap rest_of is)

-- nor where others stand before a list that does not
others_first : (xs ys others : List Event) → AreOthers xs → ((zs : List Event) → ys ≢ zs ++ Nothing ∷ []) → xs ++ ys ≢ others ++ Nothing ∷ []
others_first [] ys others are none is = none others is
others_first (x ∷ xs) ys [] are none is = are.0 (ap first_of is)
others_first (x ∷ xs) ys (y ∷ others) are none is = others_first xs ys others are.1 none (ap rest_of is)

pub gains_none : (es : List Entry) → GainsOthers es es
gains_none es = record { gained = []; others = tt; events = sym (append-nil (committed_in es)) }

events_both : (es mid es' : List Entry) (xs ys : List Event) → committed_in mid ≡ committed_in es ++ xs → committed_in es' ≡ committed_in mid ++ ys → committed_in es' ≡ committed_in es ++ (xs ++ ys)
events_both es mid es' xs ys first second = second ∙ (ap (λ z. z ++ ys) first ∙ append_assoc (committed_in es) xs ys)

pub gains_both : (es mid es' : List Entry) → GainsOthers es mid → GainsOthers mid es' → GainsOthers es es'
gains_both es mid es' first second = record {
  gained = first.gained ++ second.gained;
  others = others_both first.gained second.gained first.others second.others;
  events = events_both es mid es' first.gained second.gained first.events second.events;
}

pub gains_more : (es mid es' : List Entry) → GainsSome es mid → GainsOthers mid es' → GainsSome es es'
gains_more es mid es' first second = record {
  gains = record {
    gained = first.gains.gained ++ second.gained;
    others = others_both first.gains.gained second.gained first.gains.others second.others;
    events = events_both es mid es' first.gains.gained second.gained first.gains.events second.events;
  };
  some = omega (arith, length-append first.gains.gained second.gained, first.some);
}

-- at first there is none
pub idle_at_first : (es : List Entry) → EndsIdle 0 es es
idle_at_first es = record {
  before = [];
  no_more = λ others is. omega (arith, ap length is, length-append others (Nothing ∷ []));
  events = sym (append-nil (committed_in es));
}

-- one answer "nothing" more
pub idle_once_more : (n : ℕ) (es mid es' : List Entry) → EndsIdle n es mid → GainsNothing mid es' → EndsIdle (n + 1) es es'
idle_once_more n es mid es' idle nothing = record {
  before = idle.before;
  no_more = idle.no_more;
  events = nothing
      ∙ (ap (λ z. z ++ Nothing ∷ []) idle.events
      ∙ (append_assoc (committed_in es) (idle.before ++ replicate n Nothing) (Nothing ∷ [])
      ∙ ap (λ z. committed_in es ++ z) (append_assoc idle.before (replicate n Nothing) (Nothing ∷ []) ∙ ap (λ z. idle.before ++ z) (replicate_more n Nothing))));
}

-- others end the row
pub idle_no_more : (n : ℕ) (es mid es' : List Entry) → EndsIdle n es mid → GainsSome mid es' → EndsIdle 0 es es'
idle_no_more n es mid es' idle some = record {
  before = (idle.before ++ replicate n Nothing) ++ some.gains.gained;
  no_more = λ others. some_last (idle.before ++ replicate n Nothing) some.gains.gained others some.gains.others some.some;
  events = some.gains.events
      ∙ (ap (λ z. z ++ some.gains.gained) idle.events
      ∙ (append_assoc (committed_in es) (idle.before ++ replicate n Nothing) some.gains.gained
      ∙ ap (λ z. committed_in es ++ z) (sym (append-nil ((idle.before ++ replicate n Nothing) ++ some.gains.gained)))));
}

-- others before do not change it
pub idle_after_others : (n : ℕ) (es mid es' : List Entry) → GainsOthers es mid → EndsIdle n mid es' → EndsIdle n es es'
idle_after_others n es mid es' gains idle = record {
  before = gains.gained ++ idle.before;
  no_more = λ others. others_first gains.gained idle.before others gains.others idle.no_more;
  events = idle.events
      ∙ (ap (λ z. z ++ (idle.before ++ replicate n Nothing)) gains.events
      ∙ (append_assoc (committed_in es) gains.gained (idle.before ++ replicate n Nothing)
      ∙ ap (λ z. committed_in es ++ z) (sym (append_assoc gains.gained idle.before (replicate n Nothing)))));
}
