-- All members of a board in one hand.
use Rattle.std.specs.Prelude.{◌≡◌, ◌≢◌, ℕ, List, ◌∷◌, ◌++◌, Option, Some, None}
use Rattle.std.specs.Option.{option_to_list}
use Rattle.klsm_run.specs.declared.item.Item.{Item}
use Rattle.klsm_run.specs.Content.{without}
use Rattle.klsm_parts.specs.Events.{front_of}
use Rattle.klsm_schedules.specs.declared.step.Event.{Event}
use Rattle.klsm_schedules.specs.declared.step.Entry.{Entry}
use Rattle.klsm_schedules.specs.declared.step.Entry.TheVariants.{Committed}
use Rattle.klsm_schedules.specs.OwnSteps.{deleted_by, shared_part}
use Rattle.klsm_schedules.specs.Worlds.{content_of}
use Rattle.klsm_schedules.specs.Account.{account}
use Rattle.klsm_board.specs.declared.sizes.Sizes.{Sizes}
use Rattle.klsm_board.specs.declared.board.Board.{Board}
use Rattle.klsm_board.specs.declared.all_members.AllMembers.{AllMembers}
use Rattle.klsm_board.specs.Boards.{IsOf}
use Rattle.klsm_board.specs.Effects.{PassesFew}
use Rattle.klsm_board.specs.Finishing.{AreListsAtEnd}
use Rattle.klsm_board.specs.Turning.{steps_known, lists_known}

-- what a deletion leaves of a content
abbrev pub left_after : List Item → Option Item → List Item
left_after left (Some x) = without x left
left_after left None = left

module _ {CAP LEVELS : ℕ} where
  -- thread t's own steps
  abbrev pub steps_for : AllMembers CAP LEVELS → ℕ → List Entry
  steps_for all t = steps_known all.acting.seat.me.0.lists t

  -- the lists of all threads, in the order of their numbers
  abbrev pub all_lists : AllMembers CAP LEVELS → List (List Entry)
  all_lists all = lists_known all.acting.sizes.threads all.acting.seat.me.0.lists

  -- the items that they inserted and did not delete, in ascending order
  abbrev pub left_of : AllMembers CAP LEVELS → List Item
  left_of all = (account (all_lists all)).left

  abbrev pub sizes_of_all : AllMembers CAP LEVELS → Sizes
  sizes_of_all all = all.acting.sizes

  -- the number of the member whose turn it is
  abbrev pub turn_of : AllMembers CAP LEVELS → ℕ
  turn_of all = all.acting.number

  -- they are the members of this board
  abbrev pub AreOf : AllMembers CAP LEVELS → Board CAP LEVELS → Type 0
  AreOf all board = IsOf all.acting board

  -- they are the same members, of which thread t alone has made a step
  pub record ActsFor (t : ℕ) (before after : AllMembers CAP LEVELS) : Type 0 where
    pub sizes : after.acting.sizes ≡ before.acting.sizes
    pub table : after.acting.seat.table_id ≡ before.acting.seat.table_id
    pub others : (u : ℕ) → u ≢ t → steps_for after u ≡ steps_for before u

-- A call of one thread, when all lists were these, took effect by an event that passed over few of the
-- items which their account left.
pub record PassesFewLeft (m : Sizes) (lists : List (List Entry)) (es' : List Entry) (answer : Option Item) : Type 0 where
  pub at : List Entry
  pub event : Event
  pub after : List Entry
  pub steps : es' ≡ at ++ Committed event ∷ after
  pub answers : deleted_by event ≡ option_to_list answer
  pub few : PassesFew m event (account lists).left

-- This is the front of a world of these lists: the key of its least shared item, and the greatest number where no
-- item is shared.
pub record IsFrontOf (m : Sizes) (lists : List (List Entry)) (front : ℕ) : Type 0 where
  pub at_end : AreListsAtEnd m lists
  pub front_is : front ≡ front_of (content_of at_end.world shared_part)
