-- Two parts at once: the slot of the shared part is exchanged for a vacant one, the own part is
-- changed, and the shared part goes back.
use Rattle.std.proofs.Common.{◌≡◌, ℕ, List, [], ◌∷◌, sym, ap, ◌∙◌, subst}
use Rattle.atomic_table.specs.Table.{Me, rest, turned}
use Rattle.klsm_run.specs.declared.item.Item.{Item}
use Rattle.klsm_schedules.specs.OwnSteps.{own_part, shared_part}
use Rattle.klsm_board.specs.declared.sizes.Sizes.{Sizes}
use Rattle.klsm_board.specs.declared.rule.View.{View}
use Rattle.klsm_board.specs.Steps.{IsMine}
use Rattle.klsm_board.specs.Seats.{Carries, LendsShared, both_in_hand, last_arriving}
use Rattle.klsm_board.proofs.lemmas.seats.CarryLemmas.{two_of, two_carried}
use Rattle.klsm_board.proofs.lemmas.seats.TurnLemmas.{as_rest, behind}

-- the slot that stands first
abbrev pub first_slot : {S : Type 0} → S → List (ℕ × S) → S
first_slot d [] = d
first_slot d (x ∷ xs) = x.1

module _ {S : Type 0} (content : S → List Item) (suits : ℕ → ℕ → S → Type 0) (is_vacant : S → Type 0) (m : Sizes) (t : ℕ) where
  -- after the exchange and a turn, the own part stands first
  pub lends : (own shared : List Item) (me exchanged after : Me S View) (vacant : S) → is_vacant vacant → Carries content suits m t (both_in_hand t own shared) me
      → exchanged.1 ≡ (shared_part, vacant) ∷ rest me.1 → after.1 ≡ turned exchanged.1 → after.0 ≡ me.0 → LendsShared content suits is_vacant m t own after
  lends own shared me exchanged after vacant is_so carries exchange turn same =
      let two = two_of content suits m t shared_part (own_part t) shared own me.1 carries.contents_are carries.suited in
      record {
        acts = subst (λ v. IsMine v t) (sym same) carries.acts;
        slot = two.second;
        vacant = vacant;
        slots_are = behind me.1 exchanged.1 after.1 (shared_part, two.first) (own_part t, two.second) (shared_part, vacant) two.slots_are exchange turn;
        content_is = two.second_is;
        suits_there = two.second_suits;
        vacant_is = is_so;
      }

  module _ (own : List Item) (me : Me S View) (k : LendsShared content suits is_vacant m t own me) where
    -- it can be lent
    pub lendable : me.1 ≡ (own_part t, k.slot) ∷ rest me.1
    lendable = as_rest me.1 ((shared_part, k.vacant) ∷ []) (own_part t, k.slot) k.slots_are

    -- the slot that is lent is that of the own part
    pub lent_is : (lent : S) → me.1 ≡ (own_part t, lent) ∷ rest me.1 → (content lent ≡ own) × suits m.k (own_part t) lent
    lent_is lent value =
        let same : k.slot ≡ lent = sym (ap (first_slot lent) k.slots_are) ∙ ap (first_slot lent) value in
        (sym (ap content same) ∙ k.content_is, subst (suits m.k (own_part t)) same k.suits_there)

    -- the own part is changed
    pub lends_changed : (own' : List Item) (changed : S) → content changed ≡ own' → suits m.k (own_part t) changed → LendsShared content suits is_vacant m t own' (me.0, (own_part t, changed) ∷ rest me.1)
    lends_changed own' changed is suit = record {
      acts = k.acts;
      slot = changed;
      vacant = k.vacant;
      slots_are = ap (λ (z : List (ℕ × S)). (own_part t, changed) ∷ rest z) k.slots_are;
      content_is = is;
      suits_there = suit;
      vacant_is = k.vacant_is;
    }

    -- after a turn the vacant slot stands first, and is exchanged for the shared part
    pub vacant_first : (after : Me S View) → after.1 ≡ turned me.1 → after.1 ≡ (shared_part, k.vacant) ∷ rest after.1
    vacant_first after turn =
        as_rest after.1 ((own_part t, k.slot) ∷ []) (shared_part, k.vacant) (turn ∙ ap (λ (z : List (ℕ × S)). turned z) k.slots_are)

    returned_slots : (turned_me after : Me S View) (shared : S) → turned_me.1 ≡ turned me.1 → after.1 ≡ (shared_part, shared) ∷ rest turned_me.1 → after.1 ≡ (shared_part, shared) ∷ (own_part t, k.slot) ∷ []
    returned_slots turned_me after shared turn exchange =
        exchange ∙ ap (λ (z : List (ℕ × S)). (shared_part, shared) ∷ rest z) (turn ∙ ap (λ (z : List (ℕ × S)). turned z) k.slots_are)

    pub returned : (turned_me after : Me S View) (shared : S) → turned_me.1 ≡ turned me.1 → after.1 ≡ (shared_part, shared) ∷ rest turned_me.1 → after.0 ≡ me.0 → suits m.k shared_part shared
        → Carries content suits m t (both_in_hand t own (content shared)) after
    returned turned_me after shared turn exchange same suit =
        two_carried content suits m t shared_part (own_part t) (content shared) own me after shared k.slot k.acts same (returned_slots turned_me after shared turn exchange) (λ i. content shared) k.content_is suit k.suits_there

    -- what is on its way to the own part still is
    pub returned_arriving : (arriving : S → List Item) (turned_me after : Me S View) (shared lent : S) → turned_me.1 ≡ turned me.1 → after.1 ≡ (shared_part, shared) ∷ rest turned_me.1 → me.1 ≡ (own_part t, lent) ∷ rest me.1
        → last_arriving arriving after.1 ≡ arriving lent
    returned_arriving arriving turned_me after shared lent turn exchange value =
        ap (last_arriving arriving) (returned_slots turned_me after shared turn exchange)
        ∙ ap arriving (sym (ap (first_slot lent) k.slots_are) ∙ ap (first_slot lent) value)
