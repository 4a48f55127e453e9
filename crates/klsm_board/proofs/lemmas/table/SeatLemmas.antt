-- What a member's seat has after a step.
use Rattle.std.proofs.Common.{◌≡◌, ◌≢◌, ℕ, ◌+◌, ◌-◌, ◌≤◌, ◌==◌, List, [], ◌∷◌, ◌++◌, sym, refl, ap, ◌∙◌, subst, eq-eqb, ne_eqb, append_assoc, Some, None, inl, inr}
use Rattle.std.specs.Prelude.{MatchBool}
use Rattle.std.proofs.lemmas.Option.{none-some}
use Rattle.std.proofs.lemmas.Bool.{cases_eq}
use mathlib.Core.Logic.{dite}
use native.Mathlib.Decide.{ℕ_discrete}
use mathlib.Core.Option.{none}
use Rattle.atomic_table.specs.Table.{Me, rest, step}
use Rattle.klsm_run.specs.declared.item.Item.{Item}
use Rattle.klsm_schedules.specs.declared.step.Event.{Event}
use Rattle.klsm_schedules.specs.declared.step.Entry.{Entry}
use Rattle.klsm_schedules.specs.declared.step.Entry.TheVariants.{Acquired, Committed, Released, Missed, Marked}
use Rattle.klsm_schedules.specs.OwnSteps.{Hand, Holds, hand_of, after_entry, after_event, found_in, mark_after, without_part, work_after}
use Rattle.klsm_schedules.proofs.lemmas.hands.HandLemmas.{choice_hit, choice_miss, found_first}
use Rattle.klsm_schedules.proofs.lemmas.hands.NotedLemmas.{hand_of_more}
use Rattle.klsm_board.specs.declared.sizes.Sizes.{Sizes}
use Rattle.klsm_board.specs.declared.rule.Own.{Own}
use Rattle.klsm_board.specs.declared.rule.View.{View}
use Rattle.klsm_board.specs.Rule.{own}
use Rattle.klsm_board.specs.Steps.{mine, mine_or, others, rest_of, IsMine, AreReached, HasHolder, gained, gain, attempted}
use Rattle.klsm_board.proofs.lemmas.calls.TestLemmas.{where_zero, where_not_zero}
use Rattle.klsm_board.specs.Seats.{Stands, contents, AreSuited, Carries, Has, CarriedOut, IsMarked, LeavesWork}
use Rattle.klsm_board.proofs.lemmas.hands.WorkLemmas.{leaves_work, mark_more, marked_on, work_more}

gain_mine : (v : View) (t : ℕ) (e : Entry) → IsMine v t → IsMine (gain v e) t
gain_mine v t e is = let l : gained v.lists e ≡ own t (mine v ++ e ∷ []) ∷ rest_of v = ap (λ z. gained z e) is in l ∙ ap (λ z. own t (mine_or z) ∷ others z) (sym l)

mine_gain : (v : View) (t : ℕ) (e : Entry) → IsMine v t → mine (gain v e) ≡ mine v ++ e ∷ []
mine_gain v t e is = ap (λ z. mine_or (gained z e)) is

-- the lists behind the first stay
pub others_gain : (v : View) (e : Entry) → rest_of (gain v e) ≡ rest_of v
others_gain v e = by_lists v.lists
  where
    by_lists : (l : List Own) → others (gained l e) ≡ others l
    by_lists [] = refl
    by_lists (o ∷ os) = refl

-- a part that is not there is not taken away
absent_stays : (h : Hand) (p : ℕ) → found_in h p ≡ None → without_part h p ≡ h
absent_stays [] p away = refl
absent_stays (held ∷ h) p away = elim (cases_eq held.0 p) [
  | inl same ↦ absurd (none-some held.1 (sym away ∙ choice_hit held.0 p (Some held.1) (found_in h p) same))
  | inr differ ↦ choice_miss held.0 p (without_part h p) (held ∷ without_part h p) differ
      ∙ ap (λ (z : Hand). held ∷ z) (absent_stays h p (sym (choice_miss held.0 p (Some held.1) (found_in h p) differ) ∙ away))
]

-- the part acquired last goes, and the others stay
first_goes : (p : ℕ) (c : List Item) (h : Hand) → found_in h p ≡ None → without_part ((p, c) ∷ h) p ≡ h
first_goes p c h away = choice_hit p p (without_part h p) ((p, c) ∷ without_part h p) refl ∙ absent_stays h p away

-- a hand without its first part
abbrev pub others_of : Hand → Hand
others_of [] = []
others_of (held ∷ h) = h

module _ {S : Type 0} (content : S → List Item) (suits : ℕ → ℕ → S → Type 0) (m : Sizes) (t : ℕ) where
  -- after one more entry
  hand_gain : (v : View) (e : Entry) → IsMine v t → hand_of t (mine (gain v e)) ≡ after_entry t (hand_of t (mine v)) e
  hand_gain v e is = ap (hand_of t) (mine_gain v t e is) ∙ hand_of_more t (mine v) e

  -- what is marked stays marked by an entry that leaves the mark and the key in work
  marked_gain : (v : View) (e : Entry) → IsMine v t → ((n : ℕ) → mark_after n e ≡ n) → ((n : ℕ) → work_after n e ≡ n) → IsMarked (mine v) → IsMarked (mine (gain v e))
  marked_gain v e is marks works marked = subst IsMarked (sym (mine_gain v t e is)) (marked_on (mine v) e marks works marked)

  -- a part was acquired
  has_won : (p : ℕ) (y : S) (hand : Hand) (me me' : Me S View) → Stands content suits m t hand me → suits m.k p y
      → me' ≡ (gain me.0 (Acquired p (content y)), (p, y) ∷ me.1) → AreReached m t me'.0 → Has content suits m t ((p, content y) ∷ hand) me'
  has_won p y hand me me' has suit is reached =
      let old = has.carries in
      subst (Has content suits m t ((p, content y) ∷ hand)) (sym is) (record {
        carries = record {
          acts = gain_mine me.0 t (Acquired p (content y)) old.acts;
          contents_are = ap (λ (h : Hand). (p, content y) ∷ h) old.contents_are;
          suited = (suit, old.suited);
        };
        hand_is = hand_gain me.0 (Acquired p (content y)) old.acts ∙ ap (λ (h : Hand). (p, content y) ∷ h) has.hand_is;
        marked = marked_gain me.0 (Acquired p (content y)) old.acts (λ _. refl) (λ _. refl) has.marked;
        reached = subst (λ (z : Me S View). AreReached m t z.0) is reached;
      })

  -- the list gained an entry that leaves the hand as it was, and the mark and the key in work: a part was tried in vain,
  -- the front loaded, or a key in work seen
  pub has_noted : (e : Entry) (hand : Hand) (me me' : Me S View) → ((h : Hand) → after_entry t h e ≡ h) → ((n : ℕ) → mark_after n e ≡ n) → ((n : ℕ) → work_after n e ≡ n) → Stands content suits m t hand me
      → me' ≡ (gain me.0 e, me.1) → AreReached m t me'.0 → Has content suits m t hand me'
  has_noted e hand me me' leaves marks works has is reached =
      let old = has.carries in
      subst (Has content suits m t hand) (sym is) (record {
        carries = record {
          acts = gain_mine me.0 t e old.acts;
          contents_are = old.contents_are;
          suited = old.suited;
        };
        hand_is = hand_gain me.0 e old.acts ∙ (leaves (hand_of t (mine me.0)) ∙ has.hand_is);
        marked = marked_gain me.0 e old.acts marks works has.marked;
        reached = subst (λ (z : Me S View). AreReached m t z.0) is reached;
      })

  -- the thread marked the key that it works at, or the greatest number: what it carries is then its hand, marked
  pub has_marked : (key : ℕ) (hand : Hand) (me me' : Me S View) → Carries content suits m t hand me → hand_of t (mine me.0) ≡ hand
      → me' ≡ (gain me.0 (Marked key), me.1) → AreReached m t me'.0 → Has content suits m t hand me'
  has_marked key hand me me' old hand_is is reached =
      subst (Has content suits m t hand) (sym is) (record {
        carries = record {
          acts = gain_mine me.0 t (Marked key) old.acts;
          contents_are = old.contents_are;
          suited = old.suited;
        };
        hand_is = hand_gain me.0 (Marked key) old.acts ∙ hand_is;
        marked = subst IsMarked (sym (mine_gain me.0 t (Marked key) old.acts)) (mark_more (mine me.0) (Marked key) ∙ sym (work_more (mine me.0) (Marked key)));
        reached = subst (λ (z : Me S View). AreReached m t z.0) is reached;
      })

  pub mine_noted : (e : Entry) (me me' : Me S View) → IsMine me.0 t → me' ≡ (gain me.0 e, me.1) → mine me'.0 ≡ mine me.0 ++ e ∷ []
  mine_noted e me me' acts is = ap (λ (z : Me S View). mine z.0) is ∙ mine_gain me.0 t e acts

  pub noted_others : (e : Entry) (me me' : Me S View) → me' ≡ (gain me.0 e, me.1) → rest_of me'.0 ≡ rest_of me.0
  noted_others e me me' is = ap (λ (z : Me S View). rest_of z.0) is ∙ others_gain me.0 e

  -- a seat that carries a part has a slot for it
  front_slot : (xs : List (ℕ × S)) (p : ℕ) (c : List Item) (hand : Hand) → contents content suits m t xs ≡ (p, c) ∷ hand → AreSuited content suits m t xs
      → (y : S) × (xs ≡ (p, y) ∷ rest xs) × suits m.k p y × (content y ≡ c) × (contents content suits m t (rest xs) ≡ hand) × AreSuited content suits m t (rest xs)
  front_slot [] p c hand is fit = absurd (none-some c (ap (λ z. found_in z p) is ∙ found_first hand p c))
  front_slot (x ∷ xs) p c hand is fit =
      let same : x.0 ≡ p = ap (λ (z : Hand). first_number z) is in
      (x.1, (λ i. (same i, x.1) ∷ xs), subst (λ q. suits m.k q x.1) same fit.0, ap (λ (z : Hand). first_content z) is, ap others_of is, fit.1)
    where
      first_number : Hand → ℕ
      first_number [] = 0
      first_number (held ∷ h) = held.0

      first_content : Hand → List Item
      first_content [] = []
      first_content (held ∷ h) = held.1

  -- a seat that carries a part can release it
  first_carried : (p : ℕ) (c : List Item) (hand : Hand) (me : Me S View) → Carries content suits m t ((p, c) ∷ hand) me
      → (y : S) × (me.1 ≡ (p, y) ∷ rest me.1) × suits m.k p y × (content y ≡ c) × (contents content suits m t (rest me.1) ≡ hand) × AreSuited content suits m t (rest me.1)
  first_carried p c hand me carries = front_slot me.1 p c hand carries.contents_are carries.suited

  -- the part acquired last was released: the seat carries the others
  pub released_carries : (p : ℕ) (c : List Item) (hand : Hand) (me me' : Me S View) → Carries content suits m t ((p, c) ∷ hand) me → me' ≡ (gain me.0 (Released p), rest me.1) → Carries content suits m t hand me'
  released_carries p c hand me me' old is =
      let first = first_carried p c hand me old in
      subst (Carries content suits m t hand) (sym is) (record {
        acts = gain_mine me.0 t (Released p) old.acts;
        contents_are = first.4;
        suited = first.5;
      })

  -- and the hand by the list has the others
  pub released_hand : (p : ℕ) (c : List Item) (hand : Hand) (me me' : Me S View) → IsMine me.0 t → hand_of t (mine me.0) ≡ (p, c) ∷ hand → found_in hand p ≡ None → me' ≡ (gain me.0 (Released p), rest me.1) → hand_of t (mine me'.0) ≡ hand
  released_hand p c hand me me' acts hand_is away is =
      ap (λ (z : Me S View). hand_of t (mine z.0)) is ∙ (hand_gain me.0 (Released p) acts ∙ (ap (λ h. without_part h p) hand_is ∙ first_goes p c hand away))

  pub has_released : (p : ℕ) (c : List Item) (hand : Hand) (me me' : Me S View) → Stands content suits m t ((p, c) ∷ hand) me → found_in hand p ≡ None
      → me' ≡ (gain me.0 (Released p), rest me.1) → AreReached m t me'.0 → Has content suits m t hand me'
  has_released p c hand me me' has away is reached = let old = has.carries in record {
    carries = released_carries p c hand me me' old is;
    hand_is = released_hand p c hand me me' old.acts has.hand_is away is;
    marked = subst (λ (z : Me S View). IsMarked (mine z.0)) (sym is) (marked_gain me.0 (Released p) old.acts (λ _. refl) (λ _. refl) has.marked);
    reached = reached;
  }

  -- an event was committed, and the part acquired last released: the seat carries the others
  pub carries_committed : (p : ℕ) (c : List Item) (event : Event) (hand : Hand) (me me' : Me S View) → CarriedOut content suits m t event ((p, c) ∷ hand) me → found_in hand p ≡ None
      → me' ≡ (gain (gain me.0 (Committed event)) (Released p), rest me.1) → Carries content suits m t hand me' × (hand_of t (mine me'.0) ≡ hand)
  carries_committed p c event hand me me' out away is =
      let old = out.carries in let first = first_carried p c hand me old in
      let mid = gain_mine me.0 t (Committed event) old.acts in
      subst (λ (z : Me S View). Carries content suits m t hand z × (hand_of t (mine z.0) ≡ hand)) (sym is) (
        record {
          acts = gain_mine (gain me.0 (Committed event)) t (Released p) mid;
          contents_are = first.4;
          suited = first.5;
        },
        hand_gain (gain me.0 (Committed event)) (Released p) mid
            ∙ (ap (λ h. without_part h p) (hand_gain me.0 (Committed event) old.acts ∙ out.done) ∙ first_goes p c hand away),
      )

  -- and has them, where the event leaves the key in work
  pub has_committed : (p : ℕ) (c : List Item) (event : Event) (hand : Hand) (me me' : Me S View) → CarriedOut content suits m t event ((p, c) ∷ hand) me → LeavesWork event → found_in hand p ≡ None
      → me' ≡ (gain (gain me.0 (Committed event)) (Released p), rest me.1) → AreReached m t me'.0 → Has content suits m t hand me'
  has_committed p c event hand me me' out leaves away is reached =
      let old = out.carries in let mid = gain_mine me.0 t (Committed event) old.acts in
      let then = carries_committed p c event hand me me' out away is in
      record {
        carries = then.0;
        hand_is = then.1;
        marked = subst (λ (z : Me S View). IsMarked (mine z.0)) (sym is) (marked_gain (gain me.0 (Committed event)) (Released p) mid (λ _. refl) (λ _. refl) (marked_gain me.0 (Committed event) old.acts (λ _. refl) (leaves_work event leaves) out.marked));
        reached = reached;
      }

  -- the list then
  pub mine_committed : (p : ℕ) (event : Event) (me me' : Me S View) → IsMine me.0 t → me' ≡ (gain (gain me.0 (Committed event)) (Released p), rest me.1) → mine me'.0 ≡ mine me.0 ++ Committed event ∷ Released p ∷ []
  mine_committed p event me me' acts is =
      let mid = gain_mine me.0 t (Committed event) acts in
      ap (λ (z : Me S View). mine z.0) is
      ∙ (mine_gain (gain me.0 (Committed event)) t (Released p) mid
      ∙ (ap (λ z. z ++ Released p ∷ []) (mine_gain me.0 t (Committed event) acts) ∙ append_assoc (mine me.0) (Committed event ∷ []) (Released p ∷ [])))

  -- an event was committed, and no part released: the seat carries what it did
  pub set_carries : (event : Event) (hand : Hand) (me me' : Me S View) → Carries content suits m t hand me → me' ≡ (gain me.0 (Committed event), me.1) → Carries content suits m t hand me'
  set_carries event hand me me' old is = subst (Carries content suits m t hand) (sym is) (record {
    acts = gain_mine me.0 t (Committed event) old.acts;
    contents_are = old.contents_are;
    suited = old.suited;
  })

  -- and the hand by the list is the one that the event leaves
  pub set_hand : (event : Event) (me me' : Me S View) → IsMine me.0 t → me' ≡ (gain me.0 (Committed event), me.1) → hand_of t (mine me'.0) ≡ after_event t (hand_of t (mine me.0)) event
  set_hand event me me' acts is = ap (λ (z : Me S View). hand_of t (mine z.0)) is ∙ hand_gain me.0 (Committed event) acts

  pub has_set : (event : Event) (hand : Hand) (me me' : Me S View) → CarriedOut content suits m t event hand me → LeavesWork event
      → me' ≡ (gain me.0 (Committed event), me.1) → AreReached m t me'.0 → Has content suits m t hand me'
  has_set event hand me me' out leaves is reached = let old = out.carries in record {
    carries = set_carries event hand me me' old is;
    hand_is = set_hand event me me' old.acts is ∙ out.done;
    marked = subst (λ (z : Me S View). IsMarked (mine z.0)) (sym is) (marked_gain me.0 (Committed event) old.acts (λ _. refl) (leaves_work event leaves) out.marked);
    reached = reached;
  }

  pub mine_set : (event : Event) (me me' : Me S View) → IsMine me.0 t → me' ≡ (gain me.0 (Committed event), me.1) → mine me'.0 ≡ mine me.0 ++ Committed event ∷ []
  mine_set event = mine_noted (Committed event)

  -- a part that a seat carries can be released, if that is its content in the hand by the list
  pub can_let_go : (p : ℕ) (c : List Item) (hand : Hand) (me : Me S View) → Carries content suits m t ((p, c) ∷ hand) me → Holds (hand_of t (mine me.0)) p c
      → (y : S) × (me.1 ≡ (p, y) ∷ rest me.1) × suits m.k p y × Holds (hand_of t (mine me.0)) p (content y)
  can_let_go p c hand me carries holds =
      let k = first_carried p c hand me carries in (k.0, k.1, k.2, holds ∙ ap Some (sym k.3))

  -- so can one that it has
  pub can_release : (p : ℕ) (c : List Item) (hand : Hand) (me : Me S View) → Stands content suits m t ((p, c) ∷ hand) me
      → (y : S) × (me.1 ≡ (p, y) ∷ rest me.1) × suits m.k p y × Holds (hand_of t (mine me.0)) p (content y)
  can_release p c hand me has = can_let_go p c hand me has.carries (ap (λ h. found_in h p) has.hand_is ∙ found_first hand p c)

  -- and after an event, with what the event leaves of it
  pub can_commit : (p : ℕ) (c : List Item) (event : Event) (hand : Hand) (me : Me S View) → CarriedOut content suits m t event ((p, c) ∷ hand) me
      → (y : S) × (me.1 ≡ (p, y) ∷ rest me.1) × suits m.k p y × Holds (after_event t (hand_of t (mine me.0)) event) p (content y)
  can_commit p c event hand me out =
      let k = first_carried p c hand me out.carries in
      (k.0, k.1, k.2, ap (λ h. found_in h p) out.done ∙ (found_first hand p c ∙ ap Some (sym k.3)))

  -- the list after a release
  pub mine_released : (p : ℕ) (me me' : Me S View) → IsMine me.0 t → me' ≡ (gain me.0 (Released p), rest me.1) → mine me'.0 ≡ mine me.0 ++ Released p ∷ []
  mine_released p me me' acts is = ap (λ (z : Me S View). mine z.0) is ∙ mine_gain me.0 t (Released p) acts

  -- an event is carried out in whatever contents the seat carries
  pub out_of : (event : Event) (hand hand' : Hand) (me : Me S View) → CarriedOut content suits m t event hand me → Carries content suits m t hand' me → CarriedOut content suits m t event hand' me
  out_of event hand hand' me out carries = let old = out.carries in record {
    carries = carries;
    may = out.may;
    done = out.done ∙ (sym old.contents_are ∙ carries.contents_are);
    marked = out.marked;
  }

  -- the same carried contents, named by the slots
  pub as_carried : (hand : Hand) (me : Me S View) → Carries content suits m t hand me → Carries content suits m t (contents content suits m t me.1) me
  as_carried hand me carries = record { acts = carries.acts; contents_are = refl; suited = carries.suited }

  -- what a seat has after a try to acquire a part
  pub tried : (p slots n : ℕ) (hand : Hand) (me me' : Me S View) → Stands content suits m t hand me → attempted content suits m t (step slots p 0 (t + 1) none) me n me'
      → MatchBool (n == 0)
      ((found : List Item) × Has content suits m t ((p, found) ∷ hand) me' × (mine me'.0 ≡ mine me.0 ++ Acquired p found ∷ []))
      (Has content suits m t hand me' × (mine me'.0 ≡ mine me.0 ++ Missed p (n - 1) ∷ []) × (n ≤ m.threads))
  tried p slots n hand me me' has outcome =
      let old = has.carries in
      let won : S → Me S View = (λ y. (gain me.0 (Acquired p (content y)), (p, y) ∷ me.1)) in
      let lost : Me S View = (gain me.0 (Missed p (n - 1)), me.1) in
      let Won : Type 0 = (y : S) × suits m.k p y × (me' ≡ won y) in
      let Lost : Type 0 = (me' ≡ lost) × (n ≤ m.threads) × HasHolder m t me.0 p (n - 1) in
      let Hits : Type 0 = (found : List Item) × Has content suits m t ((p, found) ∷ hand) me' × (mine me'.0 ≡ mine me.0 ++ Acquired p found ∷ []) in
      let Misses : Type 0 = Has content suits m t hand me' × (mine me'.0 ≡ mine me.0 ++ Missed p (n - 1) ∷ []) × (n ≤ m.threads) in
      dite (ℕ_discrete n 0)
      (λ e. let k : Won = where_zero Won Lost n e outcome.0 in subst (λ b. MatchBool b Hits Misses) (sym (eq-eqb n 0 e))
      (content k.0, has_won p k.0 hand me me' has k.1 k.2 outcome.1, ap (λ (z : Me S View). mine z.0) k.2 ∙ mine_gain me.0 t (Acquired p (content k.0)) old.acts))
      (λ e. let k : Lost = where_not_zero Won Lost n e outcome.0 in subst (λ b. MatchBool b Hits Misses) (sym (ne_eqb n 0 e))
      (has_noted (Missed p (n - 1)) hand me me' (λ _. refl) (λ _. refl) (λ _. refl) has k.0 outcome.1, ap (λ (z : Me S View). mine z.0) k.0 ∙ mine_gain me.0 t (Missed p (n - 1)) old.acts, k.1))

  -- it leaves the lists behind the first as they were
  pub tried_others : (p slots n : ℕ) (me me' : Me S View) → attempted content suits m t (step slots p 0 (t + 1) none) me n me' → rest_of me'.0 ≡ rest_of me.0
  tried_others p slots n me me' outcome =
      let won : S → Me S View = (λ y. (gain me.0 (Acquired p (content y)), (p, y) ∷ me.1)) in
      let lost : Me S View = (gain me.0 (Missed p (n - 1)), me.1) in
      let Won : Type 0 = (y : S) × suits m.k p y × (me' ≡ won y) in
      let Lost : Type 0 = (me' ≡ lost) × (n ≤ m.threads) × HasHolder m t me.0 p (n - 1) in
      dite (ℕ_discrete n 0)
      (λ e. let k : Won = where_zero Won Lost n e outcome.0 in ap (λ (z : Me S View). rest_of z.0) k.2 ∙ others_gain me.0 (Acquired p (content k.0)))
      (λ e. let k : Lost = where_not_zero Won Lost n e outcome.0 in ap (λ (z : Me S View). rest_of z.0) k.0 ∙ others_gain me.0 (Missed p (n - 1)))

  -- and where it was in vain, another thread held the part
  pub tried_holder : (p slots n : ℕ) (me me' : Me S View) → attempted content suits m t (step slots p 0 (t + 1) none) me n me' → n ≢ 0 → HasHolder m t me.0 p (n - 1)
  tried_holder p slots n me me' outcome not =
      let Won : Type 0 = (y : S) × suits m.k p y × (me' ≡ (gain me.0 (Acquired p (content y)), (p, y) ∷ me.1)) in
      let Lost : Type 0 = (me' ≡ (gain me.0 (Missed p (n - 1)), me.1)) × (n ≤ m.threads) × HasHolder m t me.0 p (n - 1) in
      let k : Lost = where_not_zero Won Lost n not outcome.0 in k.2

  -- a release, a commit and the release behind it, and a commit alone leave the lists behind the first too
  pub released_others : (p : ℕ) (me me' : Me S View) → me' ≡ (gain me.0 (Released p), rest me.1) → rest_of me'.0 ≡ rest_of me.0
  released_others p me me' is = ap (λ (z : Me S View). rest_of z.0) is ∙ others_gain me.0 (Released p)

  pub committed_others : (p : ℕ) (event : Event) (me me' : Me S View) → me' ≡ (gain (gain me.0 (Committed event)) (Released p), rest me.1) → rest_of me'.0 ≡ rest_of me.0
  committed_others p event me me' is =
      ap (λ (z : Me S View). rest_of z.0) is ∙ (others_gain (gain me.0 (Committed event)) (Released p) ∙ others_gain me.0 (Committed event))

  pub set_others : (event : Event) (me me' : Me S View) → me' ≡ (gain me.0 (Committed event), me.1) → rest_of me'.0 ≡ rest_of me.0
  set_others event = noted_others (Committed event)
