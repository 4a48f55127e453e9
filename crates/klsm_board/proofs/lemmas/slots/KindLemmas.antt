-- What is said of a slot, as the part in it has it.
use Rattle.std.proofs.Common.{◌≡◌, Option, None, IfSome, ℕ, ◌≤◌, List, length, vec_len, Bool, true, false, true≢false, MatchBool, sym, ap, ◌∙◌, subst, refl, arith}
use Rattle.std.specs.List.{Contains}
use Rattle.klsm_run.specs.declared.item.Item.{Item}
use Rattle.klsm_run.specs.Content.{sorted, ShareNone}
use Rattle.klsm_run.proofs.ContainsLemmas.{contains_sorted}
use Rattle.klsm_parts.specs.Parts.{PartState, items_in}
use Rattle.klsm_parts.specs.Flushing.{IsLargest}
use Rattle.klsm_parts.specs.Events.{MayPut, own_after_put}
use Rattle.klsm_schedules.specs.OwnSteps.{own_part, shared_part}
use Rattle.klsm_board.specs.declared.slot.Home.{Home}
use Rattle.klsm_board.specs.declared.slot.Slot.{Slot}
use Rattle.klsm_board.specs.declared.slot.Slot.TheVariants.{Own, Common, Vacant}
use Rattle.klsm_board.specs.Slots.{slot_content, IsSlotOf}

-- a slot of the board, as contracts see it
abbrev pub AnySlot : Type 0
AnySlot = Slot PartState PartState

-- an own part with what lies beside it
abbrev pub AnyHome : Type 0
AnyHome = Home PartState

-- a slot's content is that of its part
pub own_content : (slot : AnySlot) (own : AnyHome) → slot ≡ Own own → slot_content slot ≡ items_in own.part
own_content slot own is = ap slot_content is

-- the same of the shared part
pub shared_content : (slot : AnySlot) (shared : PartState) → slot ≡ Common shared → slot_content slot ≡ items_in shared
shared_content slot shared is = ap slot_content is

-- the part has the board's k
pub own_k : (k p : ℕ) (slot : AnySlot) (own : AnyHome) → slot ≡ Own own → IsSlotOf k p slot → own.part.k ≡ k
own_k k p slot own is kind = let own_kind = subst (IsSlotOf k p) is kind in own_kind.1

-- and the shared part has it too
pub shared_k : (k p : ℕ) (slot : AnySlot) (shared : PartState) → slot ≡ Common shared → IsSlotOf k p slot → shared.k ≡ k
shared_k k p slot shared is kind = let shared_kind = subst (IsSlotOf k p) is kind in shared_kind.1

-- there are places for k items beside it, and no more are on their way
pub has_places : (k p : ℕ) (slot : AnySlot) (own : AnyHome) → slot ≡ Own own → IsSlotOf k p slot → (k ≤ vec_len own.places) × (own.count ≤ k)
has_places k p slot own is kind = let own_kind = subst (IsSlotOf k p) is kind in (own_kind.2, own_kind.3)

-- a slot stays one of a member if its part keeps its k, and the copy, if any, is of its largest block
pub keeps_own : (slot : AnySlot) (own : AnyHome) (new : PartState) (copy : Option (List Item)) → IfSome copy (λ run. IsLargest run new.blocks) → slot ≡ Own own → new.k ≡ own.part.k → (k p : ℕ) → IsSlotOf k p slot → IsSlotOf k p (Own (record { part = new; places = own.places; count = own.count; unions = own.unions; copy = copy }))
keeps_own slot own new copy largest is same k p kind = let own_kind = subst (IsSlotOf k p) is kind in (own_kind.0, same ∙ own_kind.1, own_kind.2, own_kind.3, largest)

-- no copy is there
pub no_copy : (copy : Option (List Item)) (blocks : List (List Item)) → copy ≡ None → IfSome copy (λ run. IsLargest run blocks)
no_copy copy blocks none = subst (λ (copy : Option (List Item)). IfSome copy (λ run. IsLargest run blocks)) (sym none) tt

-- a copy that a slot has is of the largest block of its part
pub has_copy : (k p : ℕ) (slot : AnySlot) (own : AnyHome) → slot ≡ Own own → IsSlotOf k p slot → IfSome own.copy (λ run. IsLargest run own.part.blocks)
has_copy k p slot own is kind = let own_kind = subst (IsSlotOf k p) is kind in own_kind.4

-- and still is, if an item found no room
pub put_copy : (A B : Type 0) (slot : AnySlot) (own : AnyHome) (new : PartState) (done : Bool) → slot ≡ Own own → MatchBool done A (B × (new ≡ own.part)) → (k p : ℕ) → IsSlotOf k p slot → done ≡ false → IfSome own.copy (λ run. IsLargest run new.blocks)
put_copy A B slot own new true is outcome k p kind none = absurd (true≢false none)
put_copy A B slot own new false is outcome k p kind none =
    subst (λ (part : PartState). IfSome own.copy (λ run. IsLargest run part.blocks)) (sym outcome.1) (has_copy k p slot own is kind)

-- the same of the shared part's slot
pub keeps_shared : (slot : AnySlot) (shared new : PartState) → slot ≡ Common shared → new.k ≡ shared.k → (k : ℕ) → IsSlotOf k 0 slot → IsSlotOf k 0 (Common new)
keeps_shared slot shared new is same k kind = let shared_kind = subst (IsSlotOf k 0) is kind in (shared_kind.0, same ∙ shared_kind.1)

-- what a try to put an item into the part does to the slot's content
pub put_done : (slot : AnySlot) (own : AnyHome) (new : PartState) (x : Item) (done : Bool) → slot ≡ Own own
    → MatchBool done ((MayPut own.part.k (items_in own.part)) × (items_in new ≡ own_after_put (items_in own.part) x)) ((length (items_in own.part) ≡ own.part.k) × (new ≡ own.part))
    → (k p : ℕ) → IsSlotOf k p slot
    → MatchBool done ((MayPut k (slot_content slot)) × (items_in new ≡ own_after_put (slot_content slot) x)) ((length (slot_content slot) ≡ k) × (items_in new ≡ slot_content slot))
put_done slot own new x true is outcome k p kind =
    let there = sym (own_content slot own is) in
    (subst (λ (n : ℕ). MayPut n (slot_content slot)) (own_k k p slot own is kind) (subst (λ (c : List Item). MayPut own.part.k c) there outcome.0), outcome.1 ∙ ap (λ (c : List Item). own_after_put c x) there)
put_done slot own new x false is outcome k p kind =
    let there = own_content slot own is in
    (ap length there ∙ (outcome.0 ∙ own_k k p slot own is kind), ap items_in outcome.1 ∙ sym there)

-- the part in a slot of k items is full
pub is_full : (k p : ℕ) (slot : AnySlot) (own : AnyHome) → slot ≡ Own own → IsSlotOf k p slot → length (slot_content slot) ≡ k → length (items_in own.part) ≡ own.part.k
is_full k p slot own is kind count = ap length (sym (own_content slot own is)) ∙ (count ∙ sym (own_k k p slot own is kind))

-- what is not in a content's ascending list is not in the content
pub absent_unsorted : (c d : List Item) (x : Item) → d ≡ sorted c → (Contains d x → ⊥) → Contains c x → ⊥
absent_unsorted c d x is absent within = absent (subst (λ e. Contains e x) (sym is) (contains_sorted x c within))

-- contents share no item where their ascending lists share none
pub apart_unsorted : (c d own shared : List Item) → own ≡ sorted c → shared ≡ sorted d → ShareNone own shared → ShareNone c d
apart_unsorted c d own shared own_is shared_is apart x in_own in_shared =
    apart x (subst (λ e. Contains e x) (sym own_is) (contains_sorted x c in_own)) (subst (λ e. Contains e x) (sym shared_is) (contains_sorted x d in_shared))

-- the slot of a member has an own part
pub holds_own : (k t : ℕ) (slot : AnySlot) → IsSlotOf k (own_part t) slot → ((own : AnyHome) → slot ≡ Own own → ⊥) → ⊥
holds_own k t (Own own) kind not_own = not_own own refl
holds_own k t (Common shared) kind not_own = omega (arith, kind.0)
holds_own k t Vacant kind not_own = kind

-- and the shared part's slot has the shared one
pub holds_shared : (k : ℕ) (slot : AnySlot) → IsSlotOf k shared_part slot → ((shared : PartState) → slot ≡ Common shared → ⊥) → ⊥
holds_shared k (Own own) kind not_shared = omega (arith, kind.0)
holds_shared k (Common shared) kind not_shared = not_shared shared refl
holds_shared k Vacant kind not_shared = kind
