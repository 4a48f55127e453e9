-- Three parts: the slot of the first is exchanged for a vacant one, the third is lent, both are
-- changed, and the first goes back. The second stays as it is.
use Rattle.std.proofs.Common.{◌≡◌, ℕ, List, [], ◌∷◌, sym, ap, ◌∙◌, subst}
use Rattle.atomic_table.specs.Table.{Me, rest, turned}
use Rattle.klsm_run.specs.declared.item.Item.{Item}
use Rattle.klsm_board.specs.declared.sizes.Sizes.{Sizes}
use Rattle.klsm_board.specs.declared.rule.View.{View}
use Rattle.klsm_board.specs.Steps.{IsMine}
use Rattle.klsm_board.specs.Seats.{contents, AreSuited, Carries}
use Rattle.klsm_board.proofs.lemmas.seats.CarryLemmas.{first_of, two_of}
use Rattle.klsm_board.proofs.lemmas.seats.LendLemmas.{first_slot}
use Rattle.klsm_board.proofs.lemmas.seats.TurnLemmas.{as_rest, behind_two, back_two, back_two_first}

module _ {S : Type 0} (content : S → List Item) (suits : ℕ → ℕ → S → Type 0) (m : Sizes) (t p r q : ℕ) (c e d : List Item) where
  -- after the exchange and two turns, the third part stands first
  pub record TurnedTwice (vacant : S) (slots : List (ℕ × S)) : Type 0 where
    pub second : S
    pub third : S
    pub slots_are : slots ≡ (q, third) ∷ (p, vacant) ∷ (r, second) ∷ []
    pub lendable : slots ≡ (q, third) ∷ rest slots
    pub second_is : content second ≡ e
    pub second_suits : suits m.k r second
    pub third_is : content third ≡ d
    pub third_suits : suits m.k q third

  pub turned_three : (me me1 me2 me3 : Me S View) (vacant : S) → Carries content suits m t ((p, c) ∷ (r, e) ∷ (q, d) ∷ []) me → me1.1 ≡ (p, vacant) ∷ rest me.1 → me2.1 ≡ turned me1.1 → me3.1 ≡ turned me2.1 → TurnedTwice vacant me3.1
  turned_three me me1 me2 me3 vacant carries exchanged turns again =
      let f = first_of content suits m t p c ((r, e) ∷ (q, d) ∷ []) me.1 carries.contents_are carries.suited in
      let two = two_of content suits m t r q e d f.behind f.behind_are f.behind_suited in
      let all : me.1 ≡ (p, f.slot) ∷ (r, two.first) ∷ (q, two.second) ∷ [] = f.slots_are ∙ ap (λ (z : List (ℕ × S)). (p, f.slot) ∷ z) two.slots_are in
      let is = behind_two me.1 me1.1 me2.1 me3.1 (p, f.slot) (r, two.first) (q, two.second) (p, vacant) all exchanged turns again in
      record {
        second = two.first;
        third = two.second;
        slots_are = is;
        lendable = as_rest me3.1 ((p, vacant) ∷ (r, two.first) ∷ []) (q, two.second) is;
        second_is = two.first_is;
        second_suits = two.first_suits;
        third_is = two.second_is;
        third_suits = two.second_suits;
      }

  -- the slot that is lent is that of the third part
  pub third_lent : (slots : List (ℕ × S)) (vacant lent : S) → TurnedTwice vacant slots → slots ≡ (q, lent) ∷ rest slots → (content lent ≡ d) × suits m.k q lent
  third_lent slots vacant lent here value =
      let same : here.third ≡ lent = sym (ap (first_slot lent) here.slots_are) ∙ ap (first_slot lent) value in
      (sym (ap content same) ∙ here.third_is, subst (suits m.k q) same here.third_suits)

  -- where it was changed, and another turn made, the vacant slot stands first
  pub vacant_next : (me3 me4 : Me S View) (vacant changed : S) → TurnedTwice vacant me3.1 → me4.1 ≡ turned ((q, changed) ∷ rest me3.1) → me4.1 ≡ (p, vacant) ∷ rest me4.1
  vacant_next me3 me4 vacant changed here turns =
      as_rest me4.1 ((r, here.second) ∷ (q, changed) ∷ []) (p, vacant) (back_two_first me3.1 me4.1 (q, here.third) (p, vacant) (r, here.second) (q, changed) here.slots_are turns)

  -- and at the end all three are carried, the second as it was
  pub three_left : (c' d' : List Item) (me me3 me4 me5 : Me S View) (vacant changed back_in : S) → Carries content suits m t ((p, c) ∷ (r, e) ∷ (q, d) ∷ []) me → TurnedTwice vacant me3.1
      → me4.1 ≡ turned ((q, changed) ∷ rest me3.1) → me5.1 ≡ (p, back_in) ∷ rest me4.1 → me5.0 ≡ me.0
      → content back_in ≡ c' → suits m.k p back_in → content changed ≡ d' → suits m.k q changed
      → Carries content suits m t ((p, c') ∷ (r, e) ∷ (q, d') ∷ []) me5
  three_left c' d' me me3 me4 me5 vacant changed back_in carries here turns exchanged same c_is c_suits d_is d_suits =
      let slots = back_two me3.1 me4.1 me5.1 (q, here.third) (p, vacant) (r, here.second) (q, changed) (p, back_in) here.slots_are turns exchanged in
      record {
        acts = subst (λ v. IsMine v t) (sym same) carries.acts;
        contents_are = ap (contents content suits m t) slots ∙ λ i. (p, c_is i) ∷ (r, here.second_is i) ∷ (q, d_is i) ∷ [];
        suited = subst (AreSuited content suits m t) (sym slots) (c_suits, (here.second_suits, (d_suits, tt)));
      }
