-- A fetching, by its answer, and the merge behind it: what the calls of the parts ensure and ask, said of the slots.
use Rattle.std.proofs.Common.{◌≡◌, ◌≢◌, Option, IfSome, ℕ, zero, suc, ◌+◌, ◌<◌, ◌≤◌, ◌==◌, not, ne_eqb, MatchBool, List, [], ◌∷◌, ◌++◌, length, take, vec_len, refl, sym, ap, ◌∙◌, subst, arith}
use Rattle.std.specs.List.{Contains}
use Rattle.klsm_run.specs.declared.item.Item.{Item}
use Rattle.klsm_run.specs.Content.{sorted, IsAscending, ShareNone}
use Rattle.klsm_run.proofs.ContainsLemmas.{contains_sorted}
use Rattle.klsm_run.proofs.SortedLemmas.{length_sorted}
use Rattle.klsm_parts.specs.Parts.{PartState, items_in}
use Rattle.klsm_parts.specs.Events.{MayRefill, shared_after_refill}
use Rattle.klsm_parts.specs.Flushing.{IsLargest}
use Rattle.klsm_parts.specs.Refilling.{refill_count, refill_of}
use Rattle.klsm_schedules.specs.OwnSteps.{own_part}
use Rattle.klsm_board.specs.declared.slot.Slot.TheVariants.{Own, Common}
use Rattle.klsm_board.specs.Slots.{slot_content, slot_arriving, IsSlotOf}
use Rattle.klsm_board.proofs.lemmas.slots.KindLemmas.{AnySlot, AnyHome, own_content, shared_content, own_k}

-- a slot stays one of a member where items come to the places beside its part, for no more than k of which there is room
pub keeps_fetching : (slot : AnySlot) (own after : AnyHome) → slot ≡ Own own → after.part ≡ own.part → vec_len after.places ≡ vec_len own.places → after.count ≤ own.part.k → after.copy ≡ own.copy → (k p : ℕ) → IsSlotOf k p slot → IsSlotOf k p (Own after)
keeps_fetching slot own after is part places few copy k p kind =
    let own_kind = subst (IsSlotOf k p) is kind in
    (own_kind.0, ap (λ (part : PartState). part.k) part ∙ own_kind.1, omega (arith, places, own_kind.2), omega (arith, few, own_kind.1), subst (λ (part : PartState). IfSome after.copy (λ run. IsLargest run part.blocks)) (sym part) (subst (λ (copy : Option (List Item)). IfSome copy (λ run. IsLargest run own.part.blocks)) (sym copy) own_kind.4))

-- the first of the places, where a list in front of the others has them
pub first_fetched : (n len : ℕ) (new rest : List Item) → n ≤ length new → n ≤ len → take n (take len (new ++ rest)) ≡ take n new
first_fetched zero len new rest few fits = refl
first_fetched (suc n) zero new rest few fits = absurd (omega (arith, fits))
first_fetched (suc n) (suc len) [] rest few fits = absurd (omega (arith, few))
first_fetched (suc n) (suc len) (x ∷ new) rest few fits = ap (λ (zs : List Item). x ∷ zs) (first_fetched n len new rest (omega (arith, few)) (omega (arith, fits)))

-- what is on its way to a part lies in the first of the places
pub own_arriving : (slot : AnySlot) (own : AnyHome) → slot ≡ Own own → slot_arriving slot ≡ take own.count own.places.items
own_arriving slot own is = ap slot_arriving is

-- a list that is not empty has some items
some_items : (xs : List Item) → xs ≢ [] → 0 < length xs
some_items [] some = absurd (some refl)
some_items (x ∷ xs) some = omega arith

-- items that may move can be merged into a part, whose blocks have so many and these
pub can_take_in : (own arriving c items : List Item) (k limit : ℕ) (shared : List Item) → own ≡ sorted c → items ≡ arriving → limit ≡ k → MayRefill k own shared arriving → ShareNone own arriving
    → (0 < length items) × (IsAscending items × (ShareNone c items × (length c + length items ≤ limit)))
can_take_in own arriving c items k limit shared own_is items_are k_is may apart =
    let some : 0 < length items = some_items items (λ none. may.some (sym items_are ∙ none)) in
    let room : length c + length items ≤ limit =
    omega (arith, may.room, ap (λ (z : List Item). length z) items_are, ap (λ (z : List Item). length z) own_is, length_sorted c, k_is) in
    (some, (subst IsAscending (sym items_are) may.ascending, (still_apart c items own arriving own_is items_are apart, room)))
  where
    still_apart : (c items own arriving : List Item) → own ≡ sorted c → items ≡ arriving → ShareNone own arriving → ShareNone c items
    still_apart c items own arriving own_is items_are apart x in_own in_items =
        apart x (subst (λ e. Contains e x) (sym own_is) (contains_sorted x c in_own)) (subst (λ e. Contains e x) items_are in_items)

module _ (most : ℕ) (self shared : AnySlot) (own : AnyHome) (common common_after : PartState) (places : List Item) (own_is : self ≡ Own own) (common_is : shared ≡ Common common) where
  -- what some of them leave of two contents
  abbrev Leave : ℕ → ℕ → List Item → List Item → List Item → Type 0
  Leave n k c d moved = MayRefill k c d moved × (take n places ≡ moved) × (items_in common_after ≡ shared_after_refill d moved)

  -- what a fetching tells of the slots
  pub has_fetched : (n : ℕ) → n ≡ refill_count most own.part.k (items_in own.part) (items_in common) → ((n ≡ 0) → common_after ≡ common)
      → take n places ≡ refill_of most own.part.k (items_in own.part) (items_in common)
      → (0 < n → MayRefill own.part.k (items_in own.part) (items_in common) (refill_of most own.part.k (items_in own.part) (items_in common))
      × (items_in common_after ≡ shared_after_refill (items_in common) (refill_of most own.part.k (items_in own.part) (items_in common))))
      → (k t : ℕ) → IsSlotOf k (own_part t) self
      → MatchBool (not (n == 0)) (Leave n k (slot_content self) (slot_content shared) (refill_of most k (slot_content self) (slot_content shared)))
      ((refill_of most k (slot_content self) (slot_content shared) ≡ []) × (items_in common_after ≡ slot_content shared))
  has_fetched zero count unchanged fetched outcome k t kind =
      let own_same : slot_content self ≡ items_in own.part = own_content self own own_is in
      let common_same : slot_content shared ≡ items_in common = shared_content shared common common_is in
      let k_is : own.part.k ≡ k = own_k k (own_part t) self own own_is kind in
      rw (own_same, common_same, ← k_is) (ap (λ n. take n (items_in common)) (sym count), ap items_in (unchanged refl))
  has_fetched (suc n) count unchanged fetched outcome k t kind =
      let own_same : slot_content self ≡ items_in own.part = own_content self own own_is in
      let common_same : slot_content shared ≡ items_in common = shared_content shared common common_is in
      let k_is : own.part.k ≡ k = own_k k (own_part t) self own own_is kind in
      let told = outcome (omega arith) in
      let did : Leave (suc n) k (slot_content self) (slot_content shared) (refill_of most k (slot_content self) (slot_content shared)) = rw (own_same, common_same, ← k_is) (told.0, fetched, told.1) in
      rw (ne_eqb (suc n) 0 (λ e. absurd (omega (arith, e)))) did
