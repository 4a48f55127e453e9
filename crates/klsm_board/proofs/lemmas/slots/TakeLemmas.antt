-- A take, by its answer: what the call of the parts ensures, said of the slots.
use Rattle.std.proofs.Common.{◌≡◌, ℕ, ◌+◌, ◌↔◌, List, [], ◌∷◌, false, take, slice_get, refl, sym, ap, ◌∙◌, subst, Option, Some, None, MatchOption, IfSome, IsTrue}
use Rattle.std.proofs.lemmas.Option.{same_Some}
use Rattle.klsm_run.specs.declared.item.Item.{Item}
use Rattle.klsm_run.specs.Content.{sorted}
use Rattle.klsm_parts.proofs.AppendLemmas.{in_order}
use Rattle.klsm_parts.specs.Least.{IsLeast}
use Rattle.klsm_parts.specs.Parts.{PartState, items_in, least_in, candidates_of}
use Rattle.klsm_parts.specs.Events.{MayTake, MayFindNothing, own_after_take, shared_after_take}
use Rattle.klsm_parts.specs.Taking.{picks, lesser_of, IsPicked, Leaves}
use Rattle.klsm_schedules.specs.OwnSteps.{own_part}
use Rattle.klsm_board.specs.declared.slot.Slot.TheVariants.{Own, Common}
use Rattle.klsm_board.specs.Slots.{slot_content, IsSlotOf}
use Rattle.klsm_board.specs.Choosing.{Chooses}
use Rattle.klsm_board.proofs.lemmas.slots.KindLemmas.{AnySlot, AnyHome, own_content, shared_content, own_k}

-- the least of a content, or none
pub least_or_none : (xs : List Item) (answer : Option Item) → answer ≡ slice_get xs 0 → IfSome answer (λ x. IsLeast x xs) → MatchOption answer (xs ≡ []) (λ x. IsLeast x xs)
least_or_none [] None is least = refl
least_or_none (x ∷ xs) None is least = cc
least_or_none xs (Some y) is least = least

-- no answer changes a part's k
pub own_keeps_k : (own after common common_after : PartState) (answer : Option Item) → MatchOption answer ((after ≡ own) × (common_after ≡ common)) (λ item. Leaves item own after common common_after) → after.k ≡ own.k
own_keeps_k own after common common_after None left = ap (λ (part : PartState). part.k) left.0
own_keeps_k own after common common_after (Some item) left = left.0

pub common_keeps_k : (own own_after common after : PartState) (answer : Option Item) → MatchOption answer ((own_after ≡ own) × (after ≡ common)) (λ item. Leaves item own own_after common after) → after.k ≡ common.k
common_keeps_k own own_after common after None left = ap (λ (part : PartState). part.k) left.1
common_keeps_k own own_after common after (Some item) left = left.1

module _ {P : Type 0} (may_pick : P → ℕ → ℕ → P → Type 0) (before after : P) (owner : ℕ) (self shared : AnySlot) (own_before : AnyHome) (common_before own_after common_after : PartState)
    (own_is : self ≡ Own own_before) (common_is : shared ≡ Common common_before) (same_k : own_before.part.k ≡ common_before.k) where
  -- what the call says of the picker
  abbrev IsUnasked : Option Item → Type 0
  IsUnasked answer = picks (least_in own_before.part) (least_in common_before) ≡ false → (after ≡ before) × (answer ≡ least_in own_before.part)

  abbrev IsAsked : Option Item → Type 0
  IsAsked answer = IsTrue (picks (least_in own_before.part) (least_in common_before))
      → IsPicked may_pick before after owner (candidates_of common_before) (λ candidate. answer ≡ Some (lesser_of candidate (least_in own_before.part)))

  -- of the parts
  abbrev IsLeft : Option Item → Type 0
  IsLeft answer = MatchOption answer ((own_after ≡ own_before.part) × (common_after ≡ common_before)) (λ item. Leaves item own_before.part own_after common_before common_after)

  -- and of the contents
  abbrev IsTold : Option Item → Type 0
  IsTold answer = IfSome answer (λ item. MayTake own_before.part.k owner (items_in own_before.part) (items_in common_before) item
      × (items_in own_after ≡ own_after_take (items_in own_before.part) item) × (items_in common_after ≡ shared_after_take (items_in own_before.part) (items_in common_before) item))

  -- the item was chosen among the contents of the parts
  chosen : (item : Item) → IsUnasked (Some item) → IsAsked (Some item) → Chooses may_pick before after own_before.part.k owner (items_in own_before.part) (items_in common_before) item
  chosen item unasked asked = record {
    unasked = λ quiet. ((unasked quiet).0, sym (unasked quiet).1);
    asked = λ loud. let picked = asked loud in
        subst (λ n. IsPicked may_pick before after owner (take (n + 1) (items_in common_before)) (λ candidate. item ≡ lesser_of candidate (slice_get (items_in own_before.part) 0))) (sym same_k) (record {
          index = picked.index;
          picked = picked.picked;
          candidate = picked.candidate;
          found = picked.found;
          follows = same_Some item (lesser_of picked.candidate (least_in own_before.part)) picked.follows;
        });
  }

  -- what a take tells of the slots
  pub taken : (answer : Option Item) → IsUnasked answer → IsAsked answer → IsLeft answer → IsTold answer → (answer ≡ None) ↔ MayFindNothing (items_in own_before.part) (items_in common_before)
      → (k t : ℕ) → IsSlotOf k (own_part t) self → MatchOption answer
      (MayFindNothing (slot_content self) (slot_content shared) × (items_in own_after ≡ slot_content self) × (items_in common_after ≡ slot_content shared) × (after ≡ before))
      (λ item. MayTake k owner (slot_content self) (slot_content shared) item × (items_in own_after ≡ own_after_take (slot_content self) item)
      × (items_in common_after ≡ shared_after_take (slot_content self) (slot_content shared) item)
      × Chooses may_pick before after k owner (slot_content self) (slot_content shared) item)
  taken None unasked asked left outcome nothing k t kind =
      let own_same : slot_content self ≡ items_in own_before.part = own_content self own_before own_is in
      let common_same : slot_content shared ≡ items_in common_before = shared_content shared common_before common_is in
      let both = nothing.0 refl in
      let quiet : picks (least_in own_before.part) (least_in common_before) ≡ false = ap (λ c. picks (least_in own_before.part) (slice_get c 0)) both.shared_empty in
      (rw (own_same, common_same) both, ap items_in left.0 ∙ sym own_same, ap items_in left.1 ∙ sym common_same, (unasked quiet).0)
  taken (Some item) unasked asked left outcome nothing k t kind =
      let own_same : slot_content self ≡ items_in own_before.part = own_content self own_before own_is in
      let common_same : slot_content shared ≡ items_in common_before = shared_content shared common_before common_is in
      let k_is : own_before.part.k ≡ k = own_k k (own_part t) self own_before own_is kind in
      rw (own_same, common_same, ← k_is) (outcome.0, outcome.1, outcome.2, chosen item unasked asked)

-- the least item that a part tells is that of the slot's content
pub least_told : (slot : AnySlot) (part : PartState) (answer : Option Item) → slot_content slot ≡ items_in part → answer ≡ least_in part → IfSome answer (λ x. IsLeast x (slot_content slot))
least_told slot part None same outcome = tt
least_told slot part (Some x) same outcome = ap (λ c. slice_get (sorted c) 0) same ∙ (ap (λ c. slice_get c 0) (in_order part) ∙ sym outcome)
