-- How workers end.
use Rattle.std.specs.Prelude.{ℕ, ◌≡◌, ◌⊎◌, List, [], ◌∷◌, ◌++◌, length, map, Option, Some, None}
use Rattle.std.specs.List.{AllByRecursion}
use mathlib.Core.Option.{some}
use lib.ListN.{get_elem?}
use Rattle.klsm_schedules.specs.declared.step.Event.{Event}
use Rattle.klsm_schedules.specs.declared.step.Entry.{Entry}
use Rattle.klsm_schedules.specs.declared.step.Entry.TheVariants.{Committed, Released}
use Rattle.klsm_schedules.specs.OwnSteps.{inserted, own_part, work_of}
use Rattle.klsm_board.specs.declared.sizes.Sizes.{Sizes}
use Rattle.klsm_board.specs.declared.errors.InsertError.TheVariants as insert
use Rattle.klsm_board.specs.declared.errors.ShareError.{ShareError}
use Rattle.klsm_board.specs.Entries.{both_marked, both_released, own_marked}
use Rattle.klsm_board.specs.Inserting.{RefusesInsertWaiting}
use Rattle.klsm_board.specs.Rule.{IsReached}
use Rattle.klsm_board.specs.Sharing.{RefusesShareWaiting, SharesWaiting}
use Rattle.klsm_knapsack.specs.declared.errors.Refusal.{Refusal}
use Rattle.klsm_knapsack.specs.declared.errors.Refusal.TheVariants as refusal

-- the key that a thread works at once it committed an event
abbrev pub work_behind : List Entry → Event → ℕ
work_behind before event = work_of (before ++ Committed event ∷ [])

-- A list of own steps is empty, or ends with an event that was committed, and the parts given back. Behind a deletion
-- the key that the thread then works at is marked.
abbrev pub EndsAnswered : ℕ → List Entry → Type 0
EndsAnswered t es = (es ≡ [])
    ⊎ ((before : List Entry) × (event : Event)
    × ((es ≡ before ++ Committed event ∷ Released (own_part t) ∷ [])
    ⊎ ((es ≡ before ++ Committed event ∷ both_released t)
    ⊎ ((es ≡ before ++ Committed event ∷ own_marked t (work_behind before event))
    ⊎ (es ≡ before ++ Committed event ∷ both_marked t (work_behind before event))))))

-- it ends with an insertion that was given up: the shared part had no room, or a growth was refused
abbrev pub EndsRefused : ℕ → ℕ → ℕ → List Entry → Refusal → Type 0
EndsRefused levels k t es refusal.Full =
    (before : List Entry) × RefusesInsertWaiting ⊥ levels k t before es insert.Full
EndsRefused levels k t es refusal.NoMemory =
    (before : List Entry) × RefusesInsertWaiting ⊥ levels k t before es insert.NoMemory

-- how a worker stopped: with this refusal, or with none
abbrev pub StopsWith : ℕ → ℕ → ℕ → List Entry → Option Refusal → Type 0
StopsWith levels k t es None = EndsAnswered t es
StopsWith levels k t es (Some why) = EndsRefused levels k t es why

-- one call more: all items of the own part were shared, or, as that was refused, all were kept
abbrev pub SharesOrKeeps : ℕ → ℕ → List Entry → List Entry → Type 0
SharesOrKeeps levels t es es' = ((count : ℕ) × SharesWaiting levels t es es' count)
    ⊎ ((why : ShareError) × RefusesShareWaiting levels t es es' why)

-- how a worker ended that ran: it stopped so, and then shared its items
abbrev pub HasEnded : ℕ → ℕ → ℕ → List Entry → Option Refusal → Type 0
HasEnded levels k t es refused = (stopped : List Entry) × StopsWith levels k t stopped refused
    × SharesOrKeeps levels t stopped es

-- the first refusal, where there is one
abbrev pub first_refusal : List (Option Refusal) → Option Refusal
first_refusal [] = None
first_refusal (Some why ∷ refused) = Some why
first_refusal (None ∷ refused) = first_refusal refused

-- a worker's list of own steps, and its refusal
pub record End : Type 0 where
  pub steps : List Entry
  pub refused : Option Refusal

-- no worker ran: the first one was refused the root, and the others have made no step
abbrev pub NoneHasRun : ℕ → ℕ → List End → Type 0
NoneHasRun levels k [] = ⊥
NoneHasRun levels k (first ∷ others) =
    ((why : Refusal) × (first.refused ≡ Some why) × EndsRefused levels k 0 first.steps why)
    × (inserted first.steps ≡ []) × AllByRecursion (λ end. (end.steps ≡ []) × (end.refused ≡ None)) others

-- how the workers of one search ended: each of them ran, or none did
abbrev pub HaveEnded : ℕ → ℕ → List End → Type 0
HaveEnded levels k ends = ((t : ℕ) (end : End) → get_elem? ends t ≡ some end
    → HasEnded levels k t end.steps end.refused) ⊎ NoneHasRun levels k ends

-- of the workers of one search, which ended so, the least numbered one that met a refusal met this one
pub record IsLeastRefusal (levels : ℕ) (m : Sizes) (why : Refusal) : Type 0 where
  pub ends : List End
  pub many : length ends ≡ m.threads
  pub reached : (t : ℕ) (end : End) → get_elem? ends t ≡ some end → ∥ IsReached m t end.steps ∥₁
  pub ended : HaveEnded levels m.k ends
  pub first : first_refusal (map (λ end. end.refused) ends) ≡ Some why
