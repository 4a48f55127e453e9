-- A slot, and two neighbours among the slots that were lent apart.
use Rattle.std.proofs.Common.{◌≡◌, ℕ, ◌+◌, ◌-◌, ◌<◌, List, [], ◌++◌, length, get_or, set, Option, Some, sym, ap, ◌∙◌, arith}
use Rattle.std.proofs.lemmas.List.{get_or_append_left, get_or-append_right, set-append_left, map-set, length-append}
use Rattle.klsm_run.specs.declared.item.Item.{Item}
use Rattle.klsm_lsm.specs.Slots.{block_in, blocks_in}
use Rattle.klsm_lsm.proofs.SlotLemmas.{block_in_slot}

-- the run in a slot
pub run_in_slot : {R : Type 0} (items : R → List Item) (slots : List (Option R)) (at : ℕ) (d : Option R) (run : R) → at < length slots → get_or slots at d ≡ Some run → get_or (blocks_in items slots) at [] ≡ items run
run_in_slot items slots at d run within holds = block_in_slot items slots at d within ∙ ap (block_in items) holds

-- another run in a slot
pub set_in_slot : {R : Type 0} (items : R → List Item) (slots : List (Option R)) (at : ℕ) (run : R) (block : List Item) → items run ≡ block → blocks_in items (set slots at (Some run)) ≡ set (blocks_in items slots) at block
set_in_slot items slots at run block is = map-set (block_in items) slots at (Some run) ∙ ap (set (blocks_in items slots) at) is

-- the last slot of the first part
pub last_of_front : {R : Type 0} (items : R → List Item) (slots front back : List (Option R)) (at : ℕ) (slot : Option R) → slots ≡ front ++ back → length front ≡ at + 1
    → get_or (blocks_in items slots) at [] ≡ block_in items (get_or front at slot)
last_of_front {R} items slots front back at slot whole count =
    let within : at < length front = omega (arith, count) in
    let more : at < length slots = omega (arith, within, ap length whole, length-append front back) in
    let here : get_or slots at slot ≡ get_or front at slot = ap (λ (l : List (Option R)). get_or l at slot) whole ∙ get_or_append_left front back slot at within in
    block_in_slot items slots at slot more ∙ ap (block_in items) here

-- the first slot of the second part
pub first_of_back : {R : Type 0} (items : R → List Item) (slots front back : List (Option R)) (at : ℕ) (slot : Option R) → slots ≡ front ++ back → length front ≡ at + 1 → at + 1 < length slots
    → get_or (blocks_in items slots) (at + 1) [] ≡ block_in items (get_or back 0 slot)
first_of_back {R} items slots front back at slot whole count within =
    let none : at + 1 - (at + 1) ≡ 0 = omega arith in
    let here : get_or slots (at + 1) slot ≡ get_or back 0 slot = ap (λ (l : List (Option R)). get_or l (at + 1) slot) whole ∙ (get_or-append_right front back (at + 1) (at + 1) slot count (omega arith) ∙ ap (λ (n : ℕ). get_or back n slot) none) in
    block_in_slot items slots (at + 1) slot within ∙ ap (block_in items) here

-- what was written to the last slot of the first part
pub front_set : {R : Type 0} (items : R → List Item) (slots front back : List (Option R)) (at : ℕ) (one : Option R) (block : List Item) → slots ≡ front ++ back → length front ≡ at + 1
    → block_in items one ≡ block → blocks_in items (set front at one ++ back) ≡ set (blocks_in items slots) at block
front_set {R} items slots front back at one block whole count is =
    ap (blocks_in items) (sym (set-append_left front back at one (omega (arith, count))) ∙ ap (λ (l : List (Option R)). set l at one) (sym whole))
    ∙ (map-set (block_in items) slots at one ∙ ap (set (blocks_in items slots) at) is)
