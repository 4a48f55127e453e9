-- How a board ends: the lists of all its members.
use Rattle.std.specs.Prelude.{◌≡◌, ℕ, zero, suc, ◌+◌, ◌<◌, ◌≤◌, ◌==◌, if◌then◌else◌, List, [], ◌∷◌, ◌++◌, reverse}
use Rattle.std.specs.List.{flat_map}
use mathlib.Core.Option.{some}
use lib.ListN.{get_elem?}
use Rattle.klsm_run.specs.declared.item.Item.{Item}
use Rattle.klsm_parts.specs.Events.{times}
use Rattle.klsm_schedules.specs.declared.step.Entry.{Entry}
use Rattle.klsm_schedules.specs.declared.step.Step.{Step as WorldStep}
use Rattle.klsm_schedules.specs.OwnSteps.{event_at, inserted, deleted}
use Rattle.klsm_schedules.specs.Worlds.{World, steps_of}
use Rattle.klsm_schedules.specs.Schedules.{Leads}
use Rattle.klsm_schedules.specs.RelaxedQueue.{IsRun, events_of}
use Rattle.klsm_schedules.specs.Account.{account}
use Rattle.klsm_schedules.specs.Laws.{IsWithinQuota, event_by}
use Rattle.klsm_board.specs.declared.sizes.Sizes.{Sizes}
use Rattle.klsm_board.specs.declared.board.Member.{Member}
use Rattle.klsm_board.specs.declared.rule.View.{View}
use Rattle.klsm_board.specs.Rule.{world_limits, own}
use Rattle.klsm_board.specs.Boards.{own_steps}

-- these are the lists of all threads in one world to which some schedule of legal steps leads, and
-- in which no thread made more insertions than the quota; so the events of the schedule, which has
-- each thread's in their own order, are a run of the relaxed queue
pub record AreListsAtEnd (m : Sizes) (lists : List (List Entry)) : Type 0 where
  pub world : World
  pub schedule : List WorldStep
  pub leads : Leads (world_limits m) schedule world
  pub within : IsWithinQuota (world_limits m) m.quota world
  pub lists_are : world.lists ≡ lists
  pub in_order : (t : ℕ) → t < m.threads
      → flat_map event_at (steps_of world t) ≡ flat_map (event_by t) (reverse schedule)
  pub run : IsRun (world_limits m) (events_of schedule)

-- each item was inserted once, if at all, and then it is either deleted, once, or left, once
abbrev pub AreEachOnce : List (List Entry) → Type 0
AreEachOnce lists = (x : Item)
    → (times x (flat_map inserted lists) ≤ 1)
    × (times x (flat_map inserted lists)
    ≡ times x (flat_map deleted lists) + times x (account lists).left)

module _ {CAP LEVELS : ℕ} where
  -- one of these members has the number
  abbrev pub HasMember : List (Member CAP LEVELS) → ℕ → Type 0
  HasMember members t = (i : ℕ) × (member : Member CAP LEVELS)
      × (get_elem? members i ≡ some member) × (member.number ≡ t)

  -- each number below T has a member, in whatever order; so it is of all members of a board (`AreMembersOf`)
  abbrev pub AreAll : List (Member CAP LEVELS) → ℕ → Type 0
  AreAll members threads = (t : ℕ) → t < threads → HasMember members t

  -- the least number below T that no member has
  abbrev pub IsLeastAbsent : List (Member CAP LEVELS) → ℕ → ℕ → Type 0
  IsLeastAbsent members threads number = (number < threads) × (HasMember members number → ⊥)
      × ((t : ℕ) → t < number → HasMember members t)

  -- the own steps of the member with this number
  abbrev pub steps_among : List (Member CAP LEVELS) → ℕ → List Entry
  steps_among [] t = []
  steps_among (member ∷ members) t =
      if member.number == t then own_steps member else steps_among members t

  -- the own steps of members 0 to n - 1, in the order of their numbers
  abbrev pub lists_of : ℕ → List (Member CAP LEVELS) → List (List Entry)
  lists_of zero members = []
  lists_of (suc n) members = lists_of n members ++ steps_among members n ∷ []

  -- a view has this member's list
  abbrev pub Knows : View → Member CAP LEVELS → Type 0
  Knows v member = (j : ℕ) × (get_elem? v.lists j ≡ some (own member.number (own_steps member)))
