-- The slots that a seat carries, out of what is known of their contents.
use Rattle.std.proofs.Common.{◌≡◌, ℕ, List, [], ◌∷◌, length, refl, sym, ap, ◌∙◌, subst, arith}
use Rattle.atomic_table.specs.Table.{Me, rest}
use Rattle.klsm_run.specs.declared.item.Item.{Item}
use Rattle.klsm_schedules.specs.OwnSteps.{Hand}
use Rattle.klsm_board.specs.declared.sizes.Sizes.{Sizes}
use Rattle.klsm_board.specs.declared.rule.View.{View}
use Rattle.klsm_board.specs.Steps.{IsMine}
use Rattle.klsm_board.specs.Seats.{contents, AreSuited, Carries, last_arriving}

-- the first part of a hand, its content, and the others
abbrev first_part : Hand → ℕ
first_part [] = 0
first_part (held ∷ hand) = held.0

abbrev first_content : Hand → List Item
first_content [] = []
first_content (held ∷ hand) = held.1

abbrev others : Hand → Hand
others [] = []
others (held ∷ hand) = hand

module _ {S : Type 0} (content : S → List Item) (suits : ℕ → ℕ → S → Type 0) (m : Sizes) (t : ℕ) where
  -- the slot of the first part, and those behind it
  pub record First (p : ℕ) (c : List Item) (hand : Hand) (slots : List (ℕ × S)) : Type 0 where
    pub slot : S
    pub behind : List (ℕ × S)
    pub slots_are : slots ≡ (p, slot) ∷ behind
    pub content_is : content slot ≡ c
    pub suits_there : suits m.k p slot
    pub behind_are : contents content suits m t behind ≡ hand
    pub behind_suited : AreSuited content suits m t behind

  pub first_of : (p : ℕ) (c : List Item) (hand : Hand) (slots : List (ℕ × S)) → contents content suits m t slots ≡ (p, c) ∷ hand → AreSuited content suits m t slots → First p c hand slots
  first_of p c hand [] is suited = absurd (omega (arith, ap length is))
  first_of p c hand (x ∷ xs) is suited = let same : x.0 ≡ p = ap first_part is in record {
    slot = x.1;
    behind = xs;
    slots_are = λ i. (same i, x.1) ∷ xs;
    content_is = ap first_content is;
    suits_there = subst (λ q. suits m.k q x.1) same suited.0;
    behind_are = ap others is;
    behind_suited = suited.1;
  }

  pub none_behind : (slots : List (ℕ × S)) → contents content suits m t slots ≡ [] → slots ≡ []
  none_behind [] is = refl
  none_behind (x ∷ xs) is = absurd (omega (arith, ap length is))

  -- what is known of a slot that stands first, however it is known
  pub first_here : (p : ℕ) (c : List Item) (hand : Hand) (slots xs : List (ℕ × S)) (y : S) → contents content suits m t slots ≡ (p, c) ∷ hand → AreSuited content suits m t slots → slots ≡ (p, y) ∷ xs → (content y ≡ c) × suits m.k p y
  first_here p c hand slots xs y is suited at =
      (ap first_content (sym (ap (contents content suits m t) at) ∙ is), (subst (AreSuited content suits m t) at suited).0)

  -- the first part is changed
  pub first_changed : (p : ℕ) (c c' : List Item) (hand : Hand) (me : Me S View) (y' : S) → Carries content suits m t ((p, c) ∷ hand) me → content y' ≡ c' → suits m.k p y'
      → Carries content suits m t ((p, c') ∷ hand) (me.0, (p, y') ∷ rest me.1)
  first_changed p c c' hand me y' carries is suit =
      let f = first_of p c hand me.1 carries.contents_are carries.suited in
      let same : rest me.1 ≡ f.behind = ap (λ (z : List (ℕ × S)). rest z) f.slots_are in
      record {
        acts = carries.acts;
        contents_are = λ i. (p, is i) ∷ (ap (contents content suits m t) same ∙ f.behind_are) i;
        suited = (suit, subst (AreSuited content suits m t) (sym same) f.behind_suited);
      }

  -- two parts, and no more
  pub record Two (p q : ℕ) (c d : List Item) (slots : List (ℕ × S)) : Type 0 where
    pub first : S
    pub second : S
    pub slots_are : slots ≡ (p, first) ∷ (q, second) ∷ []
    pub first_is : content first ≡ c
    pub second_is : content second ≡ d
    pub first_suits : suits m.k p first
    pub second_suits : suits m.k q second

  pub two_of : (p q : ℕ) (c d : List Item) (slots : List (ℕ × S)) → contents content suits m t slots ≡ (p, c) ∷ (q, d) ∷ [] → AreSuited content suits m t slots → Two p q c d slots
  two_of p q c d slots is suited =
      let f = first_of p c ((q, d) ∷ []) slots is suited in
      let g = first_of q d [] f.behind f.behind_are f.behind_suited in
      let none = none_behind g.behind g.behind_are in
      record {
        first = f.slot;
        second = g.slot;
        slots_are = f.slots_are ∙ λ i. (p, f.slot) ∷ (g.slots_are ∙ ap (λ (z : List (ℕ × S)). (q, g.slot) ∷ z) none) i;
        first_is = f.content_is;
        second_is = g.content_is;
        first_suits = f.suits_there;
        second_suits = g.suits_there;
      }

  -- what is on its way to the one acquired first, with the other one released
  pub two_arriving : (arriving : S → List Item) (p q : ℕ) (c d : List Item) (slots : List (ℕ × S)) → contents content suits m t slots ≡ (p, c) ∷ (q, d) ∷ [] → AreSuited content suits m t slots
      → last_arriving arriving (rest slots) ≡ last_arriving arriving slots
  two_arriving arriving p q c d slots is suited =
      let two = two_of p q c d slots is suited in
      ap (λ (z : List (ℕ × S)). last_arriving arriving (rest z)) two.slots_are ∙ sym (ap (last_arriving arriving) two.slots_are)

  -- and where it is the only one
  pub one_arriving : (arriving : S → List Item) (p : ℕ) (c : List Item) (slots : List (ℕ × S)) (y : S) → contents content suits m t slots ≡ (p, c) ∷ [] → AreSuited content suits m t slots → slots ≡ (p, y) ∷ rest slots
      → last_arriving arriving slots ≡ arriving y
  one_arriving arriving p c slots y is suited at =
      let f = first_of p c [] slots is suited in
      let none : rest slots ≡ [] = ap (λ (z : List (ℕ × S)). rest z) f.slots_are ∙ none_behind f.behind f.behind_are in
      ap (last_arriving arriving) (at ∙ ap (λ (z : List (ℕ × S)). (p, y) ∷ z) none)

  pub two_carried : (p q : ℕ) (c d : List Item) (me me' : Me S View) (y z : S) → IsMine me.0 t → me'.0 ≡ me.0 → me'.1 ≡ (p, y) ∷ (q, z) ∷ [] → content y ≡ c → content z ≡ d → suits m.k p y → suits m.k q z
      → Carries content suits m t ((p, c) ∷ (q, d) ∷ []) me'
  two_carried p q c d me me' y z alone same slots y_is z_is y_suits z_suits = record {
    acts = subst (λ v. IsMine v t) (sym same) alone;
    contents_are = ap (contents content suits m t) slots ∙ λ i. (p, y_is i) ∷ (q, z_is i) ∷ [];
    suited = subst (AreSuited content suits m t) (sym slots) (y_suits, (z_suits, tt));
  }
