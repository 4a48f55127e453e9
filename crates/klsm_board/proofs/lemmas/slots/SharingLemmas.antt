-- A sharing, by its answer: what the call of the parts ensures, said of the slots.
use Rattle.std.proofs.Common.{◌≡◌, ℕ, ◌+◌, ◌<◌, ◌↔◌, List, [], length, sym, ap, ◌∙◌, arith, Result, Ok, Err, IfOk, OnOk, OnErr, IsErrAnd}
use Rattle.klsm_run.specs.declared.item.Item.{Item}
use Rattle.klsm_parts.specs.declared.LsmError.{LsmError}
use Rattle.klsm_parts.specs.Parts.{PartState, items_in}
use Rattle.klsm_parts.specs.Sharing.{MayShare, own_after_share, shared_after_share}
use Rattle.klsm_board.specs.declared.slot.Slot.TheVariants.{Own, Common}
use Rattle.klsm_board.specs.Slots.{slot_content}
use Rattle.klsm_board.proofs.lemmas.slots.KindLemmas.{AnySlot, AnyHome, own_content, shared_content}

-- how many moved, or why none did
abbrev Answer : Type 0
Answer = Result ℕ LsmError

-- neither answer changes the own part's k
pub own_keeps_k : (own after common common_after : PartState) (answer : Answer) → OnOk answer (after ≡ record { k = own.k; blocks = [] }) → OnErr answer ((after ≡ own) × (common_after ≡ common)) → after.k ≡ own.k
own_keeps_k own after common common_after (Ok count) ok err = ap (λ (part : PartState). part.k) ok
own_keeps_k own after common common_after (Err why) ok err = ap (λ (part : PartState). part.k) err.0

-- a refusal leaves what both slots have
pub unchanged : (self shared : AnySlot) (own : AnyHome) (own_after common common_after : PartState) → self ≡ Own own → shared ≡ Common common → (answer : Answer) → OnErr answer ((own_after ≡ own.part) × (common_after ≡ common)) → OnErr answer ((items_in own_after ≡ slot_content self) × (items_in common_after ≡ slot_content shared))
unchanged self shared own own_after common common_after own_is common_is (Ok count) err = err
unchanged self shared own own_after common common_after own_is common_is (Err why) err = (ap items_in err.0 ∙ sym (own_content self own own_is), ap items_in err.1 ∙ sym (shared_content shared common common_is))

module _ (self shared : AnySlot) (own : AnyHome) (own_after common common_after : PartState) (own_is : self ≡ Own own) (common_is : shared ≡ Common common) where
  -- what the items that move leave of two contents
  abbrev Leave : List Item → List Item → Type 0
  Leave c d = MayShare c c × (items_in own_after ≡ own_after_share c c) × (items_in common_after ≡ shared_after_share d c)

  -- how many moved
  pub has_counted : (answer : Answer) → IfOk answer (λ count. count ≡ length (items_in own.part)) → IfOk answer (λ count. count ≡ length (slot_content self))
  has_counted (Ok count) counted = counted ∙ sym (ap length (own_content self own own_is))
  has_counted (Err why) counted = tt

  -- a sharing that was carried out
  pub has_shared : (Blocks : Type 0) → (answer : Answer) → 0 < length (slot_content self) → IfOk answer (λ count. count ≡ length (items_in own.part))
      → IfOk answer (λ count. 0 < count → MayShare (items_in own.part) (items_in own.part) × (items_in own_after ≡ own_after_share (items_in own.part) (items_in own.part)) × (items_in common_after ≡ shared_after_share (items_in common) (items_in own.part)) × Blocks)
      → OnOk answer (Leave (slot_content self) (slot_content shared))
  has_shared Blocks (Ok count) some counted outcome =
      let own_same : slot_content self ≡ items_in own.part = own_content self own own_is in
      let common_same : slot_content shared ≡ items_in common = shared_content shared common common_is in
      let moves : 0 < count = omega (arith, some, counted, ap length own_same) in
      let did = outcome moves in
      rw (own_same, common_same) (did.0, did.1, did.2)
  has_shared Blocks (Err why) some counted outcome = tt

  -- one that was refused for want of room
  pub lacks_room : (limit n l : ℕ) → length (items_in common) ≡ n → length (items_in own.part) ≡ l → (answer : Answer) → IsErrAnd answer (λ why. why ≡ LsmError.Full) ↔ (limit < n + l)
      → IsErrAnd answer (λ why. why ≡ LsmError.Full) ↔ (limit < length (slot_content shared) + length (slot_content self))
  lacks_room limit n l counted own_counted answer full =
      let own_same : length (slot_content self) ≡ l = ap length (own_content self own own_is) ∙ own_counted in
      let common_same : length (slot_content shared) ≡ n = ap length (shared_content shared common common_is) ∙ counted in
      rw (own_same, common_same) full
