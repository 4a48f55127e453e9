-- Two parts: the slot of the first is exchanged for a vacant one, the second is lent, both are changed, and the first goes back.
use Rattle.std.proofs.Common.{◌≡◌, ℕ, List, [], ◌∷◌, sym, ap, ◌∙◌, subst}
use Rattle.atomic_table.specs.Table.{Me, rest, turned}
use Rattle.klsm_run.specs.declared.item.Item.{Item}
use Rattle.klsm_board.specs.declared.sizes.Sizes.{Sizes}
use Rattle.klsm_board.specs.declared.rule.View.{View}
use Rattle.klsm_board.specs.Seats.{Carries}
use Rattle.klsm_board.proofs.lemmas.seats.CarryLemmas.{two_of, two_carried}
use Rattle.klsm_board.proofs.lemmas.seats.LendLemmas.{first_slot}
use Rattle.klsm_board.proofs.lemmas.seats.TurnLemmas.{as_rest, behind}

module _ {S : Type 0} (content : S → List Item) (suits : ℕ → ℕ → S → Type 0) (m : Sizes) (t p q : ℕ) (c d : List Item) where
  -- after the exchange and a turn, the second part stands first
  pub record TurnedOnce (vacant : S) (slots : List (ℕ × S)) : Type 0 where
    pub second : S
    pub slots_are : slots ≡ (q, second) ∷ (p, vacant) ∷ []
    pub lendable : slots ≡ (q, second) ∷ rest slots
    pub second_is : content second ≡ d
    pub second_suits : suits m.k q second

  pub turned_two : (me me1 me2 : Me S View) (vacant : S) → Carries content suits m t ((p, c) ∷ (q, d) ∷ []) me → me1.1 ≡ (p, vacant) ∷ rest me.1 → me2.1 ≡ turned me1.1 → TurnedOnce vacant me2.1
  turned_two me me1 me2 vacant carries exchanged turns =
      let two = two_of content suits m t p q c d me.1 carries.contents_are carries.suited in
      let is = behind me.1 me1.1 me2.1 (p, two.first) (q, two.second) (p, vacant) two.slots_are exchanged turns in
      record {
        second = two.second;
        slots_are = is;
        lendable = as_rest me2.1 ((p, vacant) ∷ []) (q, two.second) is;
        second_is = two.second_is;
        second_suits = two.second_suits;
      }

  -- the slot that is lent is that of the second part
  pub second_lent : (slots : List (ℕ × S)) (vacant lent : S) → TurnedOnce vacant slots → slots ≡ (q, lent) ∷ rest slots → (content lent ≡ d) × suits m.k q lent
  second_lent slots vacant lent here value =
      let same : here.second ≡ lent = sym (ap (first_slot lent) here.slots_are) ∙ ap (first_slot lent) value in
      (sym (ap content same) ∙ here.second_is, subst (suits m.k q) same here.second_suits)

  -- where it was changed, and another turn made, the vacant slot stands first
  turned_back : (me2 me3 : Me S View) (vacant changed : S) → TurnedOnce vacant me2.1 → me3.1 ≡ turned ((q, changed) ∷ rest me2.1) → me3.1 ≡ (p, vacant) ∷ (q, changed) ∷ []
  turned_back me2 me3 vacant changed here turns = turns ∙ ap (λ (z : List (ℕ × S)). turned ((q, changed) ∷ rest z)) here.slots_are

  pub vacant_again : (me2 me3 : Me S View) (vacant changed : S) → TurnedOnce vacant me2.1 → me3.1 ≡ turned ((q, changed) ∷ rest me2.1) → me3.1 ≡ (p, vacant) ∷ rest me3.1
  vacant_again me2 me3 vacant changed here turns = as_rest me3.1 ((q, changed) ∷ []) (p, vacant) (turned_back me2 me3 vacant changed here turns)

  -- and at the end both are carried
  pub two_left : (c' d' : List Item) (me me2 me3 me4 : Me S View) (vacant changed back_in : S) → Carries content suits m t ((p, c) ∷ (q, d) ∷ []) me → TurnedOnce vacant me2.1
      → me3.1 ≡ turned ((q, changed) ∷ rest me2.1) → me4.1 ≡ (p, back_in) ∷ rest me3.1 → me4.0 ≡ me.0
      → content back_in ≡ c' → suits m.k p back_in → content changed ≡ d' → suits m.k q changed
      → Carries content suits m t ((p, c') ∷ (q, d') ∷ []) me4
  two_left c' d' me me2 me3 me4 vacant changed back_in carries here turns exchanged same c_is c_suits d_is d_suits =
      let slots : me4.1 ≡ (p, back_in) ∷ (q, changed) ∷ [] = exchanged ∙ ap (λ (z : List (ℕ × S)). (p, back_in) ∷ rest z) (turned_back me2 me3 vacant changed here turns) in
      two_carried content suits m t p q c' d' me me4 back_in changed carries.acts same slots c_is d_is c_suits d_suits
