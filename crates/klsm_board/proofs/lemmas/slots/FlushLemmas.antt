-- A flush, by its answer: what the call of the parts ensures, said of the slots.
use Rattle.std.proofs.Common.{◌≡◌, ℕ, ◌+◌, ◌<◌, ◌≤◌, ◌↔◌, max, List, [], ◌∷◌, length, sym, ap, subst, ◌∙◌, arith, Result, Ok, Err, OnOk, OnErr, IfErr, IsErrAnd}
use Rattle.std.proofs.lemmas.List.{length-append}
use Rattle.klsm_run.specs.declared.item.Item.{Item}
use Rattle.klsm_run.specs.Capacity.{heap_room}
use Rattle.klsm_run.proofs.SortedLemmas.{length_sorted}
use Rattle.klsm_parts.specs.Limit.{limit_of}
use Rattle.klsm_parts.specs.declared.LsmError.{LsmError}
use Rattle.klsm_parts.specs.Parts.{PartState, items_in}
use Rattle.klsm_parts.specs.Events.{MayFlush, own_after_flush, shared_after_flush}
use Rattle.klsm_parts.specs.Flushing.{moved}
use Rattle.klsm_schedules.specs.OwnSteps.{own_part}
use Rattle.klsm_board.specs.declared.slot.Slot.TheVariants.{Own, Common}
use Rattle.klsm_board.specs.Slots.{slot_content, IsSlotOf}
use Rattle.klsm_board.proofs.lemmas.slots.KindLemmas.{AnySlot, AnyHome, own_content, shared_content, own_k}

-- what is not above a limit is within it
not_more : (limit sum n count : ℕ) → count ≡ n → (limit < n + sum → ⊥) → count + sum ≤ limit
not_more limit sum n count is not_above = omega (arith, is, not_above)

-- a summand is at most the sum
summand : (sum n rest : ℕ) → sum ≡ n + rest → n ≤ sum
summand sum n rest is = omega (arith, is)

-- at most k items move, or one
moved_few : (k : ℕ) (blocks : List (List Item)) (x : Item) → length (items_in (record { k = k; blocks = blocks })) ≡ k → length (moved blocks x) ≤ max 1 k
moved_few k [] x full = omega arith
moved_few k (b ∷ bs) x full =
    let few : length b ≤ length (items_in (record { k = k; blocks = b ∷ bs })) = summand _ (length b) _ (length_sorted _ ∙ length-append b _) in
    omega (arith, few, full)

-- one refusal is not the other
abbrev IsFull : LsmError → Type 0
IsFull LsmError.Full = Unit {0}
IsFull LsmError.NoMemory = ⊥

-- whether it was carried out
abbrev Answer : Type 0
Answer = Result (Unit {0}) LsmError

-- neither answer changes a part's k
pub own_keeps_k : (own after common common_after : PartState) (blocks : List (List Item)) (answer : Answer) → OnOk answer (after ≡ record { k = own.k; blocks = blocks }) → OnErr answer ((after ≡ own) × (common_after ≡ common)) → after.k ≡ own.k
own_keeps_k own after common common_after blocks (Ok done) ok err = ap (λ (part : PartState). part.k) ok
own_keeps_k own after common common_after blocks (Err why) ok err = ap (λ (part : PartState). part.k) err.0

pub common_keeps_k : (own own_after common after : PartState) (blocks : List (List Item)) (answer : Answer) → OnOk answer (after ≡ record { k = common.k; blocks = blocks }) → OnErr answer ((own_after ≡ own) × (after ≡ common)) → after.k ≡ common.k
common_keeps_k own own_after common after blocks (Ok done) ok err = ap (λ (part : PartState). part.k) ok
common_keeps_k own own_after common after blocks (Err why) ok err = ap (λ (part : PartState). part.k) err.1

-- a refusal leaves what both slots have
pub unchanged : (self shared : AnySlot) (own : AnyHome) (own_after common common_after : PartState) → self ≡ Own own → shared ≡ Common common → (answer : Answer) → OnErr answer ((own_after ≡ own.part) × (common_after ≡ common)) → OnErr answer ((items_in own_after ≡ slot_content self) × (items_in common_after ≡ slot_content shared))
unchanged self shared own own_after common common_after own_is common_is (Ok done) err = err
unchanged self shared own own_after common common_after own_is common_is (Err why) err = (ap items_in err.0 ∙ sym (own_content self own own_is), ap items_in err.1 ∙ sym (shared_content shared common common_is))

module _ (levels n : ℕ) (x : Item) (self shared : AnySlot) (own_before : AnyHome) (common_before : PartState) (own_is : self ≡ Own own_before) (common_is : shared ≡ Common common_before) (count : length (items_in common_before) ≡ n) where
  -- what the call says of the contents
  abbrev IsTold : PartState → PartState → Type 0
  IsTold own_after common_after = MayFlush own_before.part.k (items_in own_before.part) x (moved own_before.part.blocks x)
      × (items_in own_after ≡ own_after_flush (items_in own_before.part) x (moved own_before.part.blocks x))
      × (items_in common_after ≡ shared_after_flush (items_in common_before) (moved own_before.part.blocks x))

  -- there is no room for what would move
  abbrev Lacks : Type 0
  Lacks = limit_of levels heap_room < n + length (moved own_before.part.blocks x)

  -- what the slots are said to have become
  abbrev IsFlushed : PartState → PartState → Type 0
  IsFlushed own_after common_after = (k t : ℕ) → IsSlotOf k (own_part t) self
      → (moved : List Item) × MayFlush k (slot_content self) x moved
      × (items_in own_after ≡ own_after_flush (slot_content self) x moved)
      × (items_in common_after ≡ shared_after_flush (slot_content shared) moved)
      × (length (slot_content shared) + length moved ≤ limit_of levels heap_room)

  -- a flush that was carried out
  pub flushed : (own_after common_after : PartState) (answer : Answer) → OnOk answer (IsTold own_after common_after) → IsErrAnd answer (λ why. why ≡ LsmError.Full) ↔ Lacks → OnOk answer (IsFlushed own_after common_after)
  flushed own_after common_after (Ok u) outcome full = λ k t kind.
      let k_is : own_before.part.k ≡ k = own_k k (own_part t) self own_before own_is kind in
      let own_same : slot_content self ≡ items_in own_before.part = own_content self own_before own_is in
      let common_same : slot_content shared ≡ items_in common_before = shared_content shared common_before common_is in
      let within : length (items_in common_before) + length (moved own_before.part.blocks x) ≤ limit_of levels heap_room = not_more _ _ _ _ count (λ less. full.1 less) in
      (moved own_before.part.blocks x, rw (own_same, ← k_is) outcome.0, rw own_same outcome.1, rw common_same outcome.2, rw common_same within)
  flushed own_after common_after (Err why) outcome full = tt

  -- a flush that was refused for want of room
  pub lacks_room : length (items_in own_before.part) ≡ own_before.part.k → (answer : Answer) → IsErrAnd answer (λ why. why ≡ LsmError.Full) ↔ Lacks
      → IfErr answer (λ why. why ≡ LsmError.Full → (k t : ℕ) → IsSlotOf k (own_part t) self → limit_of levels heap_room < length (slot_content shared) + max 1 k)
  lacks_room is_full (Ok u) full = tt
  lacks_room is_full (Err why) full = λ is k t kind.
      let k_is : own_before.part.k ≡ k = own_k k (own_part t) self own_before own_is kind in
      let same : length (slot_content shared) ≡ n = ap length (shared_content shared common_before common_is) ∙ count in
      let few : length (moved own_before.part.blocks x) ≤ max 1 own_before.part.k = moved_few own_before.part.k own_before.part.blocks x is_full in
      let less : limit_of levels heap_room < n + length (moved own_before.part.blocks x) = full.0 is in
      omega (arith, ap (λ m. max 1 m) k_is, same, few, less)

  -- a flush that was refused for want of memory
  pub has_room : 0 < length (moved own_before.part.blocks x) → (answer : Answer) → IsErrAnd answer (λ why. why ≡ LsmError.Full) ↔ Lacks
      → IfErr answer (λ why. why ≡ LsmError.NoMemory → length (slot_content shared) < limit_of levels heap_room)
  has_room moves (Ok u) full = tt
  has_room moves (Err why) full = λ is.
      let same : length (slot_content shared) ≡ n = ap length (shared_content shared common_before common_is) ∙ count in
      let within : length (items_in common_before) + length (moved own_before.part.blocks x) ≤ limit_of levels heap_room =
      not_more _ _ _ _ count (λ less. subst IsFull (sym (full.1 less) ∙ is) tt) in
      omega (arith, same, count, within, moves)
