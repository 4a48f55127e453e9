-- What an insertion adds to its member's list.
use Rattle.std.specs.Prelude.{◌≡◌, ℕ, zero, suc, ◌+◌, ◌<◌, ◌≤◌, ◌⊎◌, max, List, [], ◌∷◌, ◌++◌, length, Option, None}
use Rattle.klsm_run.specs.declared.item.Item.{Item}
use Rattle.klsm_run.specs.declared.item.Stamp.{Stamp}
use Rattle.klsm_run.specs.Capacity.{heap_room}
use Rattle.klsm_parts.specs.Limit.{limit_of}
use Rattle.klsm_parts.specs.Events.{MayPut, MayFlush}
use Rattle.klsm_schedules.specs.declared.step.Event.TheVariants.{Put, Flush}
use Rattle.klsm_schedules.specs.declared.step.Entry.{Entry}
use Rattle.klsm_schedules.specs.declared.step.Entry.TheVariants.{Committed, Released, Missed}
use Rattle.klsm_schedules.specs.OwnSteps.{own_part, shared_part}
use Rattle.klsm_board.specs.declared.errors.Busy.{Busy}
use Rattle.klsm_board.specs.declared.errors.TryInsertError.{TryInsertError}
use Rattle.klsm_board.specs.declared.errors.TryInsertError.TheVariants as try_insert
use Rattle.klsm_board.specs.declared.errors.InsertError.{InsertError}
use Rattle.klsm_board.specs.declared.errors.InsertError.TheVariants as insert
use Rattle.klsm_board.specs.Entries.{own_acquired, both_acquired, both_released, own_looked}

-- the stamp of a member's next insertion, and the item that it inserts
abbrev pub stamp_of : ℕ → ℕ → Stamp
stamp_of owner number = record { owner = owner; number = number }

abbrev pub stamped : ℕ → Stamp → ℕ → Item
stamped key stamp load = record { key = key; stamp = stamp; load = load }

-- The own part was found with room, and the item was put there: the shared lock was not tried.
pub record Puts (k t : ℕ) (es es' : List Entry) (x : Item) : Type 0 where
  pub own : List Item
  pub room : MayPut k own
  pub steps : es' ≡ own_acquired t own es ++ Committed (Put x) ∷ Released (own_part t) ∷ []

-- The own part was found with k items, and some moved to the shared part, which had room for them.
pub record Flushes (levels k t : ℕ) (es es' : List Entry) (x : Item) : Type 0 where
  pub own : List Item
  pub shared : List Item
  pub moved : List Item
  pub full : length own ≡ k
  pub may : MayFlush k own x moved
  pub within : length shared + length moved ≤ limit_of levels heap_room
  pub steps : es' ≡ both_acquired t own shared es ++ Committed (Flush x moved) ∷ both_released t

-- an insertion
abbrev pub Inserts : ℕ → ℕ → ℕ → List Entry → List Entry → Item → Type 0
Inserts levels k t es es' x = Puts k t es es' x ⊎ Flushes levels k t es es' x

-- The own part was found with k items; both parts were acquired and released.
pub record GivesUp (k t : ℕ) (es es' : List Entry) (Found : List Item → Type 0) : Type 0 where
  pub own : List Item
  pub shared : List Item
  pub full : length own ≡ k
  pub found : Found shared
  pub steps : es' ≡ both_acquired t own shared es ++ both_released t

-- the shared part has no room for a whole own part, or for the item where k is 0
abbrev pub LacksRoom : ℕ → ℕ → List Item → Type 0
LacksRoom levels k shared = limit_of levels heap_room < length shared + max 1 k

-- it has fewer items than it can have
abbrev pub IsBelowLimit : ℕ → List Item → Type 0
IsBelowLimit levels shared = length shared < limit_of levels heap_room

-- the own lock was not free
pub record MissesOwn (t : ℕ) (es es' : List Entry) (busy : Busy) : Type 0 where
  pub lock : busy.lock ≡ own_part t
  pub steps : es' ≡ es ++ Missed (own_part t) busy.by ∷ []

-- it was, but the shared lock was not, which was tried after this was found in the own part and, where the
-- front was looked at, there
pub record MissesShared (t : ℕ) (es es' : List Entry) (busy : Busy) (Found : List Item → Option ℕ → Type 0) : Type 0 where
  pub own : List Item
  pub look : Option ℕ
  pub found : Found own look
  pub lock : busy.lock ≡ shared_part
  pub steps : es' ≡ own_looked t own look es ++ Missed shared_part busy.by ∷ Released (own_part t) ∷ []

-- one of the two was not, and all is released
abbrev pub Misses : ℕ → (List Item → Option ℕ → Type 0) → List Entry → List Entry → Busy → Type 0
Misses t Found es es' busy = MissesOwn t es es' busy ⊎ MissesShared t es es' busy Found

-- so many tries that met a lock that was not free, one after another
abbrev pub MissesTimes : ℕ → ℕ → (List Item → Option ℕ → Type 0) → List Entry → List Entry → Type 0
MissesTimes zero t Found es es' = es' ≡ es
MissesTimes (suc n) t Found es es' = (before : List Entry) × (busy : Busy)
    × MissesTimes n t Found es before × Misses t Found before es' busy

-- any number of them
pub record Waits (t : ℕ) (Found : List Item → Option ℕ → Type 0) (es es' : List Entry) : Type 0 where
  pub tries : ℕ
  pub missed : MissesTimes tries t Found es es'

-- an insertion tries the shared lock where the own part has k items, and does not look at the front
abbrev pub FindsFull : ℕ → List Item → Option ℕ → Type 0
FindsFull k own look = (length own ≡ k) × (look ≡ None)

-- why an insertion that never blocks is refused
abbrev pub RefusesInsert : Type 0 → ℕ → ℕ → ℕ → List Entry → List Entry → TryInsertError → Type 0
RefusesInsert IsSpent levels k t es es' try_insert.Spent = IsSpent × (es' ≡ es)
RefusesInsert IsSpent levels k t es es' (try_insert.Busy busy) =
    Misses t (FindsFull k) es es' busy
RefusesInsert IsSpent levels k t es es' try_insert.Full = GivesUp k t es es' (LacksRoom levels k)
RefusesInsert IsSpent levels k t es es' try_insert.NoMemory = GivesUp k t es es' (IsBelowLimit levels)

-- a cause that is no lock, as a call that never blocks has it
abbrev pub as_tried : InsertError → TryInsertError
as_tried insert.Spent = try_insert.Spent
as_tried insert.Full = try_insert.Full
as_tried insert.NoMemory = try_insert.NoMemory

-- an insertion that may wait: some tries are refused for a lock, and the next one is not
abbrev pub InsertsWaiting : ℕ → ℕ → ℕ → List Entry → List Entry → Item → Type 0
InsertsWaiting levels k t es es' x = (now : List Entry)
    × Waits t (FindsFull k) es now × Inserts levels k t now es' x

-- why it is refused
abbrev pub RefusesInsertWaiting : Type 0 → ℕ → ℕ → ℕ → List Entry → List Entry → InsertError → Type 0
RefusesInsertWaiting IsSpent levels k t es es' insert.Spent = IsSpent × (es' ≡ es)
RefusesInsertWaiting IsSpent levels k t es es' insert.Full =
    (now : List Entry) × Waits t (FindsFull k) es now × GivesUp k t now es' (LacksRoom levels k)
RefusesInsertWaiting IsSpent levels k t es es' insert.NoMemory =
    (now : List Entry) × Waits t (FindsFull k) es now × GivesUp k t now es' (IsBelowLimit levels)
