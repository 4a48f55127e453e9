-- Which events a list commits, and where a deletion takes effect or a call meets a lock that is held, in which world.
use Rattle.std.specs.Prelude.{◌≡◌, ℕ, ◌*◌, ◌-◌, ◌≤◌, List, ◌∷◌, ◌++◌, length, Option}
use Rattle.std.specs.List.{flat_map}
use Rattle.std.specs.Option.{option_to_list}
use Rattle.klsm_run.specs.declared.item.Item.{Item}
use Rattle.klsm_run.specs.Content.{skipped}
use Rattle.klsm_schedules.specs.declared.step.Event.{Event}
use Rattle.klsm_schedules.specs.declared.step.Event.TheVariants.{Put, Flush, Take, Early, Nothing, Spy, Refill, Steal, Share}
use Rattle.klsm_schedules.specs.declared.step.Entry.{Entry}
use Rattle.klsm_schedules.specs.declared.step.Entry.TheVariants.{Committed, Missed}
use Rattle.klsm_schedules.specs.OwnSteps.{event_at, inserted, deleted, deleted_by}
use Rattle.klsm_schedules.specs.Worlds.{live}
use Rattle.klsm_board.specs.declared.errors.Busy.{Busy}
use Rattle.klsm_board.specs.declared.sizes.Sizes.{Sizes}
use Rattle.klsm_board.specs.declared.rule.Own.{Own}
use Rattle.klsm_board.specs.Rule.{own, view}
use Rattle.klsm_board.specs.Steps.{AreReached, HasHolder}

-- the events that a list of own steps commits
abbrev pub committed_in : List Entry → List Event
committed_in es = flat_map event_at es

-- a deletion skips at most T·k of these items, one by the front at most (T-1)·k, and with one thread none;
-- nothing is answered where they are at most (T-1)·k
abbrev pub PassesFew : Sizes → Event → List Item → Type 0
PassesFew m (Put x) items = ⊥
PassesFew m (Flush x moved) items = ⊥
PassesFew m (Take x) items =
    (skipped items x ≤ m.threads * m.k) × (m.threads ≡ 1 → skipped items x ≡ 0)
PassesFew m (Early x front) items =
    (skipped items x ≤ (m.threads - 1) * m.k) × (m.threads ≡ 1 → skipped items x ≡ 0)
PassesFew m Nothing items = length items ≤ (m.threads - 1) * m.k
PassesFew m (Spy victim moved) items = ⊥
PassesFew m (Steal victim moved) items = ⊥
PassesFew m (Refill moved) items = ⊥
PassesFew m (Share moved) items = ⊥

-- Thread t's list went from es to es', and its call took effect where the list was `at`: that list, and
-- those of the other threads that the seat knows, were then those of one world to which a schedule
-- leads, and the call passed over few of the items that lived there. The thread had inserted and
-- deleted what it had when the call began.
pub record TakesEffect (m : Sizes) (t : ℕ) (behind : List Own) (es es' : List Entry) (answer : Option Item) : Type 0 where
  pub at : List Entry
  pub event : Event
  pub after : List Entry
  pub steps : es' ≡ at ++ Committed event ∷ after
  pub answers : deleted_by event ≡ option_to_list answer
  pub inserted_are : inserted at ≡ inserted es
  pub deleted_are : deleted at ≡ deleted es
  pub reached : AreReached m t (view (own t at ∷ behind))
  pub few : PassesFew m event (live reached.world)

-- Thread t's list came to es', and its call met the lock where the list was `at`: that list, and those of the
-- other threads that the seat knows, were then those of one world to which a schedule leads, and in which the
-- thread that is named, another one, held the part.
pub record MeetsHolder (m : Sizes) (t : ℕ) (behind : List Own) (es' : List Entry) (busy : Busy) : Type 0 where
  pub at : List Entry
  pub after : List Entry
  pub steps : es' ≡ at ++ Missed busy.lock busy.by ∷ after
  pub holder : HasHolder m t (view (own t at ∷ behind)) busy.lock busy.by
