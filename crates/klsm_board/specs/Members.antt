-- Boards and their members.
use Rattle.std.specs.Prelude.{◌≡◌, ℕ, ◌*◌, ◌<◌, ◌≤◌, [], ◌∷◌, length, slice_get, Option}
use Rattle.atomic_table.specs.Table.{Me}
use Rattle.klsm_run.specs.declared.item.Item.{Item}
use Rattle.klsm_run.specs.declared.limits.TheConstants.{MOST_THREADS}
use Rattle.klsm_parts.specs.Parts.{PartState}
use Rattle.klsm_schedules.specs.OwnSteps.{content_in, hand_of, inserted, deleted}
use Rattle.klsm_board.specs.declared.sizes.Sizes.{Sizes}
use Rattle.klsm_board.specs.declared.rule.View.{View}
use Rattle.klsm_board.specs.declared.slot.Slot.{Slot}
use Rattle.klsm_board.specs.Steps.{mine, IsMine, AreReached}
use Rattle.klsm_board.specs.Seats.{contents, AreSuited, IsMarked}
use Rattle.klsm_board.specs.Slots.{slot_content, IsSlotOf}

-- the most insertions that a board can be made for, of each member: 2^48
abbrev pub most_insertions : ℕ
most_insertions = 281474976710656

-- and the most deletions of a member, which are the insertions of all
abbrev pub most_deletions : ℕ
most_deletions = MOST_THREADS * most_insertions

-- the sizes of a board whose members may make the most insertions, and whose deletions move no items
abbrev pub sizes_of : ℕ → ℕ → Sizes
sizes_of threads k = record { threads = threads; k = k; quota = most_insertions; refill = 0 }

-- what a board can be made for
pub record AreSizes (capacity : ℕ) (m : Sizes) : Type 0 where
  pub some_thread : 1 ≤ m.threads
  pub threads : m.threads ≤ MOST_THREADS
  pub k : m.k ≤ capacity
  pub quota : m.quota ≤ most_insertions
  pub refill : m.refill ≤ m.k

-- the seat has no part, and its list has so many insertions and deletions, within the quota and
-- within what all members may insert
pub record IsResting (m : Sizes) (number insertions deletions : ℕ) (me : Me (Slot PartState PartState) View) : Type 0 where
  pub acts : IsMine me.0 number
  pub carries_none : me.1 ≡ []
  pub hand_is : hand_of number (mine me.0) ≡ []
  pub marked : IsMarked (mine me.0)
  pub insertions_are : length (inserted (mine me.0)) ≡ insertions
  pub deletions_are : length (deleted (mine me.0)) ≡ deletions
  pub within : insertions ≤ m.quota
  pub few : deletions ≤ most_deletions
  pub thread : number < m.threads
  pub reached : ∥ AreReached m number me.0 ∥₁

-- the seat has one part, which has so many items and this least one
pub record IsHolding (m : Sizes) (number insertions deletions lock count : ℕ) (least : Option Item) (me : Me (Slot PartState PartState) View) : Type 0 where
  pub acts : IsMine me.0 number
  pub contents_are : contents slot_content IsSlotOf m number me.1 ≡ hand_of number (mine me.0)
  pub suited : ∥ AreSuited slot_content IsSlotOf m number me.1 ∥₁
  pub hand_is : hand_of number (mine me.0) ≡ (lock, content_in (hand_of number (mine me.0)) lock) ∷ []
  pub marked : IsMarked (mine me.0)
  pub insertions_are : length (inserted (mine me.0)) ≡ insertions
  pub deletions_are : length (deleted (mine me.0)) ≡ deletions
  pub reached : ∥ AreReached m number me.0 ∥₁
  pub thread : number < m.threads
  pub lock_is : lock ≤ m.threads
  pub count_is : count ≡ length (content_in (hand_of number (mine me.0)) lock)
  pub least_is : least ≡ slice_get (content_in (hand_of number (mine me.0)) lock) 0
