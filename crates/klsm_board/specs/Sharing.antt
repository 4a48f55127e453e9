-- What the sharing of all own items adds to its member's list.
use Rattle.std.specs.Prelude.{◌≡◌, ℕ, ◌+◌, ◌<◌, ◌≤◌, ◌⊎◌, List, [], ◌∷◌, ◌++◌, length, Option, None}
use Rattle.klsm_run.specs.declared.item.Item.{Item}
use Rattle.klsm_run.specs.Capacity.{heap_room}
use Rattle.klsm_parts.specs.Limit.{limit_of}
use Rattle.klsm_parts.specs.Sharing.{MayShare}
use Rattle.klsm_schedules.specs.declared.step.Event.TheVariants.{Share}
use Rattle.klsm_schedules.specs.declared.step.Entry.{Entry}
use Rattle.klsm_schedules.specs.declared.step.Entry.TheVariants.{Committed, Released}
use Rattle.klsm_schedules.specs.OwnSteps.{own_part}
use Rattle.klsm_board.specs.declared.errors.TryShareError.{TryShareError}
use Rattle.klsm_board.specs.declared.errors.TryShareError.TheVariants as try_share
use Rattle.klsm_board.specs.declared.errors.ShareError.{ShareError}
use Rattle.klsm_board.specs.declared.errors.ShareError.TheVariants as share
use Rattle.klsm_board.specs.Entries.{own_acquired, both_acquired, both_released}
use Rattle.klsm_board.specs.Inserting.{Misses, Waits}

-- The own part was found empty: the shared lock was not tried, and nothing moved.
pub record SharesNone (t : ℕ) (es es' : List Entry) (count : ℕ) : Type 0 where
  pub none : count ≡ 0
  pub steps : es' ≡ own_acquired t [] es ++ Released (own_part t) ∷ []

-- All items of the own part moved to the shared part, which had room for them.
pub record SharesAll (levels t : ℕ) (es es' : List Entry) (count : ℕ) : Type 0 where
  pub own : List Item
  pub shared : List Item
  pub some : 0 < count
  pub counted : count ≡ length own
  pub may : MayShare own own
  pub within : length shared + length own ≤ limit_of levels heap_room
  pub steps : es' ≡ both_acquired t own shared es ++ Committed (Share own) ∷ both_released t

-- a sharing of so many items
abbrev pub Shares : ℕ → ℕ → List Entry → List Entry → ℕ → Type 0
Shares levels t es es' count = SharesNone t es es' count ⊎ SharesAll levels t es es' count

-- The own part was found with items; both parts were acquired and released, and nothing moved.
pub record KeepsAll (t : ℕ) (es es' : List Entry) (Found : List Item → List Item → Type 0) : Type 0 where
  pub own : List Item
  pub shared : List Item
  pub some : 0 < length own
  pub found : Found own shared
  pub steps : es' ≡ both_acquired t own shared es ++ both_released t

-- the shared part has no room for the own items, and has it
abbrev pub LacksRoomFor : ℕ → List Item → List Item → Type 0
LacksRoomFor levels own shared = limit_of levels heap_room < length shared + length own

abbrev pub HasRoomFor : ℕ → List Item → List Item → Type 0
HasRoomFor levels own shared = length shared + length own ≤ limit_of levels heap_room

-- a sharing tries the shared lock where the own part has items, and does not look at the front
abbrev pub FindsSome : List Item → Option ℕ → Type 0
FindsSome own look = (0 < length own) × (look ≡ None)

-- why a sharing that never blocks is refused
abbrev pub RefusesShare : ℕ → ℕ → List Entry → List Entry → TryShareError → Type 0
RefusesShare levels t es es' (try_share.Busy busy) = Misses t FindsSome es es' busy
RefusesShare levels t es es' try_share.Full = KeepsAll t es es' (LacksRoomFor levels)
RefusesShare levels t es es' try_share.NoMemory = KeepsAll t es es' (HasRoomFor levels)

-- a cause that is no lock, as a call that never blocks has it
abbrev pub as_tried_share : ShareError → TryShareError
as_tried_share share.Full = try_share.Full
as_tried_share share.NoMemory = try_share.NoMemory

-- a sharing that may wait: some tries are refused for a lock, and the next one is not
abbrev pub SharesWaiting : ℕ → ℕ → List Entry → List Entry → ℕ → Type 0
SharesWaiting levels t es es' count = (now : List Entry)
    × Waits t FindsSome es now × Shares levels t now es' count

-- why it is refused
abbrev pub RefusesShareWaiting : ℕ → ℕ → List Entry → List Entry → ShareError → Type 0
RefusesShareWaiting levels t es es' share.Full =
    (now : List Entry) × Waits t FindsSome es now × KeepsAll t now es' (LacksRoomFor levels)
RefusesShareWaiting levels t es es' share.NoMemory =
    (now : List Entry) × Waits t FindsSome es now × KeepsAll t now es' (HasRoomFor levels)
