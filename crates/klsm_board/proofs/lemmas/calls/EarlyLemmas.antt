-- The deletion by the front, from the own part in hand.
use Rattle.std.proofs.Common.{◌≡◌, ℕ, Bool, true, false, ◌<◌, ◌≤◌, List, [], ◌∷◌, ◌++◌, refl, sym, ap, ◌∙◌, subst, append_assoc}
use Rattle.std.specs.Prelude.{MatchBool, ltb, Some}
use Rattle.std.proofs.lemmas.Bool.{lt-ltb, le-ltb}
use Rattle.atomic_table.specs.Table.{Me, rest}
use Rattle.klsm_run.specs.declared.item.Item.{Item}
use Rattle.klsm_parts.specs.Least.{IsLeast}
use Rattle.klsm_parts.specs.Events.{MayTakeEarly, own_after_early}
use Rattle.klsm_schedules.specs.declared.step.Event.TheVariants.{Early}
use Rattle.klsm_schedules.specs.declared.step.Entry.{Entry}
use Rattle.klsm_schedules.specs.declared.step.Entry.TheVariants.{Committed, Looked}
use Rattle.klsm_schedules.specs.OwnSteps.{hand_of, own_part, work_of}
use Rattle.klsm_board.specs.declared.sizes.Sizes.{Sizes}
use Rattle.klsm_board.specs.declared.rule.View.{View}
use Rattle.klsm_board.specs.Steps.{gain, mine, rest_of, AreReached}
use Rattle.klsm_board.specs.Seats.{Carries, Has, own_in_hand}
use Rattle.klsm_board.specs.Entries.{own_marked}
use Rattle.klsm_board.specs.Deleting.{TakesEarly}
use Rattle.klsm_board.specs.Effects.{TakesEffect}
use Rattle.klsm_board.proofs.lemmas.calls.EffectLemmas.{alone_skips_none, effect_at, lawful_there}
use Rattle.klsm_board.proofs.lemmas.seats.CarryLemmas.{first_of, first_here, first_changed}
use Rattle.klsm_board.proofs.lemmas.seats.TurnLemmas.{as_rest}
use Rattle.klsm_board.proofs.lemmas.hands.CommitLemmas.{early_done}
use Rattle.klsm_board.proofs.lemmas.hands.PossibleLemmas.{early_skips_few, early_keeps_order}
use Rattle.klsm_board.proofs.lemmas.hands.WorkLemmas.{work_append}
use Rattle.klsm_board.proofs.lemmas.table.SeatLemmas.{mine_set, noted_others, set_carries, set_hand, set_others}

module _ {S : Type 0} (content : S → List Item) (suits : ℕ → ℕ → S → Type 0) (m : Sizes) (t : ℕ) where
  -- what a look at the front tells that deletes an item
  abbrev Deleted : Item → ℕ → Me S View → Me S View → Type 0
  Deleted x n me me' = (me' ≡ (gain me.0 (Committed (Early x n)), me.1)) × AreReached m t me'.0 × ((before : AreReached m t me.0) × (before.world.front ≡ n))

  -- and what one that deletes none
  abbrev Stays : ℕ → Me S View → Me S View → Type 0
  Stays n me me' = (me' ≡ (gain me.0 (Looked n), me.1)) × AreReached m t me'.0

  -- what a look at the front tells
  abbrev LooksAt : Item → ℕ → Me S View → Me S View → Type 0
  LooksAt x n me me' = MatchBool (ltb x.key n) (Deleted x n me me') (Stays n me me')

  -- where the front is not above the least own key, the look is noted
  pub looked_only : (x : Item) (n : ℕ) (me me' : Me S View) → n ≤ x.key → LooksAt x n me me' → Stays n me me'
  looked_only x n me me' above outcome =
      subst (λ b. MatchBool b (Deleted x n me me') (Stays n me me')) (le-ltb x.key n above) outcome

  -- and else it commits an Early
  pub looked_below : (x : Item) (n : ℕ) (me me' : Me S View) → x.key < n → LooksAt x n me me' → Deleted x n me me'
  looked_below x n me me' below outcome =
      subst (λ b. MatchBool b (Deleted x n me me') (Stays n me me')) (lt-ltb x.key n below) outcome

  -- in both cases the lists behind the first stay
  pub looked_others : (x : Item) (n : ℕ) (me me' : Me S View) → LooksAt x n me me' → rest_of me'.0 ≡ rest_of me.0
  looked_others x n me me' outcome = by_test (ltb x.key n) outcome
    where
      by_test : (b : Bool) → MatchBool b (Deleted x n me me') (Stays n me me') → rest_of me'.0 ≡ rest_of me.0
      by_test true took = set_others content suits m t (Early x n) me me' took.0
      by_test false same = noted_others content suits m t (Looked n) me me' same.0

  module _ (own : List Item) (x : Item) (n : ℕ) (me me' : Me S View) (has : Has content suits m t (own_in_hand t own) me) (least : IsLeast x own) (below : x.key < n) (outcome : LooksAt x n me me') where
    -- what the seat carries, once the item is out of the part, which is then its hand by the list
    pub early_out : (y' : S) → content y' ≡ own_after_early own x → suits m.k (own_part t) y'
        → Carries content suits m t (own_in_hand t (own_after_early own x)) (me'.0, (own_part t, y') ∷ rest me'.1)
        × (hand_of t (mine me'.0) ≡ own_in_hand t (own_after_early own x))
    early_out y' is suit =
        let now : Me S View = (me.0, (own_part t, y') ∷ rest me.1) in
        let later : Me S View = (me'.0, (own_part t, y') ∷ rest me'.1) in
        let carries = first_changed content suits m t (own_part t) own (own_after_early own x) [] me y' has.carries is suit in
        let out = early_done content suits m t own x n me now has refl (record { least = least; below = below }) carries in
        let took = looked_below x n me me' below outcome in
        let goes : later ≡ (gain now.0 (Committed (Early x n)), now.1) = ap (λ (z : Me S View). (z.0, (own_part t, y') ∷ rest z.1)) took.0 in (
          set_carries content suits m t (Early x n) (own_in_hand t (own_after_early own x)) now later carries goes,
          set_hand content suits m t (Early x n) now later carries.acts goes ∙ out.done,
        )

    -- and that the thread then works at the item
    pub early_work : x.key ≡ work_of (mine me'.0)
    early_work = let acts = has.carries.acts in
        sym (ap work_of (mine_set content suits m t (Early x n) me me' acts (looked_below x n me me' below outcome).0) ∙ work_append (mine me.0) (Committed (Early x n) ∷ []))

    -- and what the deletion adds to the list
    pub takes_early : (es' : List Entry) → es' ≡ mine me'.0 ++ own_marked t x.key → TakesEarly m t own (mine me.0) es' x
    takes_early es' released = let may : MayTakeEarly own x n = record { least = least; below = below } in let acts = has.carries.acts in record {
      front = n;
      may = may;
      skips = early_skips_few content suits m t own me x n has may;
      keeps = early_keeps_order content suits m t own me x n has may;
      steps = released ∙ (ap (λ z. z ++ own_marked t x.key) (mine_set content suits m t (Early x n) me me' acts (looked_below x n me me' below outcome).0)
          ∙ append_assoc (mine me.0) (Committed (Early x n) ∷ []) (own_marked t x.key));
    }

    -- and where it takes effect
    pub early_effect : (es' : List Entry) → es' ≡ mine me'.0 ++ own_marked t x.key → TakesEffect m t (rest_of me.0) (mine me.0) es' (Some x)
    unfolding takes_early
    early_effect es' released =
        let took = looked_below x n me me' below outcome in
        let before = took.2.0 in
        let skips = early_skips_few content suits m t own me x n has (record { least = least; below = below }) in
        let keeps = early_keeps_order content suits m t own me x n has (record { least = least; below = below }) in
        let takes = takes_early es' released in
        effect_at m t me.0 (rest_of me.0) (mine me.0) es' (own_marked t x.key) (Early x n) (Some x) has.carries.acts refl before (skips before.world (lawful_there m t me.0 before) before.list_is took.2.1, alone_skips_none m t me.0 x before (keeps before.world (lawful_there m t me.0 before) before.list_is took.2.1)) takes.steps refl refl refl

    slots_same : me'.1 ≡ me.1
    slots_same = ap (λ (z : Me S View). z.1) (looked_below x n me me' below outcome).0

    -- the own part is still in hand, and has the item
    pub slot_there : (y : S) × (me'.1 ≡ (own_part t, y) ∷ rest me'.1)
    slot_there =
        let carries = has.carries in
        let f = first_of content suits m t (own_part t) own [] me.1 carries.contents_are carries.suited in
        (f.slot, as_rest me'.1 f.behind (own_part t, f.slot) (slots_same ∙ f.slots_are))

    pub slot_is : (y : S) → me'.1 ≡ (own_part t, y) ∷ rest me'.1 → (content y ≡ own) × suits m.k (own_part t) y
    slot_is y at =
        let carries = has.carries in
        first_here content suits m t (own_part t) own [] me.1 (rest me'.1) y carries.contents_are carries.suited (sym slots_same ∙ at)
