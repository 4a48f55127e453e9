-- What the calls of a slot tell, by what it has before and after.
use Rattle.std.specs.Prelude.{◌≡◌, ℕ, ℤ, List, [], ◌∷◌, length, Result, Ok, Err, Option, Some, None}
use Rattle.std.specs.Prelude.{slice_set}
use mathlib.Core.Option.{some}
use lib.ListN.{get_elem?}
use Rattle.klsm_run.specs.declared.item.Item.{Item}
use Rattle.klsm_run.specs.declared.item.Stamp.{Stamp}
use Rattle.klsm_schedules.specs.declared.step.Entry.{Entry}
use Rattle.klsm_schedules.specs.OwnSteps.{inserted, deleted}
use Rattle.klsm_board.specs.Boards.{own_steps}
use Rattle.klsm_board.specs.declared.bounding.Bound.{Bound}
use Rattle.klsm_board.specs.declared.errors.Busy.{Busy as IsBusy}
use Rattle.klsm_board.specs.declared.errors.TryInsertError.{TryInsertError}
use Rattle.klsm_board.specs.declared.errors.TryInsertError.TheVariants.{Spent, Busy, Full, NoMemory}
use Rattle.klsm_board.specs.declared.errors.TryShareError.{TryShareError}
use Rattle.klsm_board.specs.declared.errors.TryShareError.TheVariants as try_share
use Rattle.klsm_owned.specs.declared.owned.OwnedMember.{OwnedMember}
use Rattle.klsm_owned.specs.Owned.{IsSameOwned, member_of}
use Rattle.klsm_owned.specs.Trying.{LooksAtFront, TriesBound, TriesInsert, TriesDelete, TriesDeleteAlone, TriesRest, TriesShare}
use Rattle.klsm_c.specs.declared.bounding.PlainBound.{PlainBound}
use Rattle.klsm_c.specs.declared.item.PlainItem.{PlainItem}
use Rattle.klsm_c.specs.declared.slot.Slot.{Slot}
use Rattle.klsm_c.specs.Items.{plain_bound_of, plain_of}
use Rattle.klsm_c.specs.Codes as codes

-- how many items the member of a slot has, of those that its list has by this measure
abbrev pub count_in : (List Entry → List Item) → List OwnedMember → ℕ
count_in items_by [] = 0
count_in items_by (x ∷ xs) = length (items_by (own_steps (member_of x)))

-- how many insertions and deletions it has made
abbrev pub inserted_in : List OwnedMember → ℕ
inserted_in xs = count_in inserted xs

abbrev pub deleted_in : List OwnedMember → ℕ
deleted_in xs = count_in deleted xs

-- the code of an answer
abbrev pub insert_code : Result Stamp TryInsertError → ℤ
insert_code (Ok stamp) = codes.ok
insert_code (Err (Busy busy)) = codes.busy
insert_code (Err Full) = codes.full
insert_code (Err NoMemory) = codes.no_memory
insert_code (Err Spent) = codes.spent

abbrev pub delete_code : Result (Option Item) IsBusy → ℤ
delete_code (Ok (Some item)) = codes.ok
delete_code (Ok None) = codes.nothing
delete_code (Err busy) = codes.busy

-- what is written for an answer
abbrev pub written : PlainItem → Result (Option Item) IsBusy → PlainItem
written old (Ok (Some item)) = plain_of item
written old (Ok None) = old
written old (Err busy) = old

-- An insertion: `not_open` exactly where there is no member. Else the member is the same afterwards, its list
-- tells what it did, and the code says which answer it was.
abbrev pub InsertsBySlot : List OwnedMember → List OwnedMember → ℕ → ℕ → ℤ → Type 0
InsertsBySlot [] new key load code = (code ≡ codes.not_open) × (new ≡ [])
InsertsBySlot (x ∷ xs) new key load code = (y : OwnedMember) × (new ≡ y ∷ []) × IsSameOwned x y
    × (answer : Result Stamp TryInsertError) × (code ≡ insert_code answer) × TriesInsert x y key load answer

-- A deletion, as an insertion. An item is written exactly where the code is `ok`.
abbrev pub DeletesBySlot : List OwnedMember → List OwnedMember → PlainItem → PlainItem → ℤ → Type 0
DeletesBySlot [] new item item' code = (code ≡ codes.not_open) × (new ≡ []) × (item' ≡ item)
DeletesBySlot (x ∷ xs) new item item' code = (y : OwnedMember) × (new ≡ y ∷ []) × IsSameOwned x y
    × (answer : Result (Option Item) IsBusy) × (code ≡ delete_code answer) × (item' ≡ written item answer)
    × TriesDelete x y answer

-- A deletion by which no items move to the member's part, as a deletion.
abbrev pub DeletesAloneBySlot : List OwnedMember → List OwnedMember → PlainItem → PlainItem → ℤ → Type 0
DeletesAloneBySlot [] new item item' code = (code ≡ codes.not_open) × (new ≡ []) × (item' ≡ item)
DeletesAloneBySlot (x ∷ xs) new item item' code = (y : OwnedMember) × (new ≡ y ∷ []) × IsSameOwned x y
    × (answer : Result (Option Item) IsBusy) × (code ≡ delete_code answer) × (item' ≡ written item answer)
    × TriesDeleteAlone x y answer

-- the code of a sharing's answer, and the number that is written for it
abbrev pub share_code : Result ℕ TryShareError → ℤ
share_code (Ok count) = codes.ok
share_code (Err (try_share.Busy busy)) = codes.busy
share_code (Err try_share.Full) = codes.full
share_code (Err try_share.NoMemory) = codes.no_memory

abbrev pub count_written : ℕ → Result ℕ TryShareError → ℕ
count_written old (Ok count) = count
count_written old (Err why) = old

-- A sharing, as an insertion. How many items moved is written exactly where the code is `ok`.
abbrev pub SharesBySlot : List OwnedMember → List OwnedMember → ℕ → ℕ → ℤ → Type 0
SharesBySlot [] new moved moved' code = (code ≡ codes.not_open) × (new ≡ []) × (moved' ≡ moved)
SharesBySlot (x ∷ xs) new moved moved' code = (y : OwnedMember) × (new ≡ y ∷ []) × IsSameOwned x y
    × (answer : Result ℕ TryShareError) × (code ≡ share_code answer) × (moved' ≡ count_written moved answer)
    × TriesShare x y answer

-- the code of a bound's answer, and what is written for it
abbrev pub bound_code : Result Bound IsBusy → ℤ
bound_code (Ok bound) = codes.ok
bound_code (Err busy) = codes.busy

abbrev pub bound_written : PlainBound → Result Bound IsBusy → PlainBound
bound_written old (Ok bound) = plain_bound_of bound
bound_written old (Err busy) = old

-- A bound, as an insertion. It is written exactly where the code is `ok`.
abbrev pub BoundsBySlot : List OwnedMember → List OwnedMember → PlainBound → PlainBound → ℤ → Type 0
BoundsBySlot [] new bound bound' code = (code ≡ codes.not_open) × (new ≡ []) × (bound' ≡ bound)
BoundsBySlot (x ∷ xs) new bound bound' code = (y : OwnedMember) × (new ≡ y ∷ []) × IsSameOwned x y
    × (answer : Result Bound IsBusy) × (code ≡ bound_code answer) × (bound' ≡ bound_written bound answer)
    × TriesBound x y answer

-- the code of a rest's answer
abbrev pub rest_code : Result Unit IsBusy → ℤ
rest_code (Ok done) = codes.ok
rest_code (Err busy) = codes.busy

-- A rest, as an insertion. It writes nothing.
abbrev pub RestsBySlot : List OwnedMember → List OwnedMember → ℤ → Type 0
RestsBySlot [] new code = (code ≡ codes.not_open) × (new ≡ [])
RestsBySlot (x ∷ xs) new code = (y : OwnedMember) × (new ≡ y ∷ []) × IsSameOwned x y
    × (answer : Result Unit IsBusy) × (code ≡ rest_code answer) × TriesRest x y answer

-- A look at the front: the greatest number where there is no member.
abbrev pub LooksAt : List OwnedMember → List OwnedMember → ℕ → Type 0
LooksAt [] new front = (front ≡ 18446744073709551615) × (new ≡ [])
LooksAt (x ∷ xs) new front = (y : OwnedMember) × (new ≡ y ∷ []) × IsSameOwned x y × LooksAtFront x y front

-- one slot of a queue went through a call that tells this, and the others are as they were
abbrev pub CallsSlot : ℕ → List Slot → List Slot → (List OwnedMember → List OwnedMember → Type 0) → Type 0
CallsSlot number old new tells = (before : Slot) × (after : Slot)
    × (get_elem? old number ≡ some before) × (new ≡ slice_set old number after)
    × tells before.handle.held after.handle.held
