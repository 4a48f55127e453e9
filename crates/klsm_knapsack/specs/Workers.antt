-- Workers, and how the work of one of them grows.
use Rattle.std.specs.Prelude.{ℕ, ◌≡◌, ◌≤◌, ◌<◌, ◌⊎◌, List, [], ◌∷◌, None, Some, IfSome, MatchOption, All, length, map, slice_get}
use Rattle.std.specs.List.{AllByRecursion, Contains, flat_map}
use Rattle.rand_pcg.specs.Lcg.{Lcg}
use Rattle.klsm_run.specs.declared.item.Item.{Item}
use Rattle.klsm_parts.specs.Generators.{generator_of}
use Rattle.klsm_schedules.specs.declared.step.Entry.{Entry}
use Rattle.klsm_schedules.specs.OwnSteps.{inserted, deleted}
use Rattle.klsm_board.specs.Boards.{AreMembersOf, IsOf, IsSame, own_steps}
use Rattle.klsm_knapsack.specs.declared.search_state.SearchState.{SearchState}
use Rattle.klsm_knapsack.specs.declared.search_state.NoRoom.{NoRoom}
use Rattle.klsm_knapsack.specs.declared.search_state.NoRoom.TheVariants.{Refuses, SearchesAlone}
use Rattle.klsm_knapsack.specs.declared.errors.Refusal.{Refusal}
use Rattle.klsm_knapsack.specs.declared.errors.Refusal.TheVariants.{NoMemory}
use Rattle.klsm_knapsack.specs.declared.search_state.Worker.{Worker}
use Rattle.klsm_instance.specs.Selections.{Problem}
use Rattle.klsm_instance.specs.Nodes.{NoneAbove, level_in, picks_in}
use Rattle.klsm_knapsack.specs.IncumbentSeats.{IsSeatAt, found_by}
use Rattle.klsm_knapsack.specs.Work.{Work, HasNode, HasWorked, IsNodeItem, all_inserted, all_deleted}
use Rattle.klsm_knapsack.specs.Ends.{EndsAnswered, EndsRefused, SharesOrKeeps}
use Rattle.klsm_knapsack.specs.Answers.{IsIdle}
use Rattle.klsm_knapsack.specs.Courses.{CallsOfWorker, IsOnCourse}

-- only nodes were inserted since
pub record InsertsNodes (p : Problem) (before after : List Item) : Type 0 where
  pub kept : (x : Item) → Contains before x → Contains after x
  pub nodes : (x : Item) → Contains after x → Contains before x ⊎ IsNodeItem p x

-- and nothing was deleted, nor a number found that is less
pub record Extends (p : Problem) (before after : Work) : Type 0 where
  pub inserts : InsertsNodes p before.inserted after.inserted
  pub deletes : after.deleted ≡ before.deleted
  pub finds : before.found ≤ after.found

module _ {LEVELS : ℕ} where
  -- what a worker's member inserted and deleted, and the greatest number that its seat found
  abbrev pub work_by : Worker LEVELS → Work
  work_by w = record {
    inserted = inserted (own_steps w.member);
    deleted = deleted (own_steps w.member);
    found = found_by w.seat;
  }

  -- the worker's member is one of the board, and its seat one at the incumbent
  pub record IsWorkerOf (state : SearchState LEVELS) (w : Worker LEVELS) : Type 0 where
    pub member : IsOf w.member state.board
    pub seat : IsSeatAt state.incumbent w.seat

  -- it is the same worker
  pub record IsSameWorker (before after : Worker LEVELS) : Type 0 where
    pub member : IsSame before.member after.member
    pub seat : after.seat.table_seat.table_id ≡ before.seat.table_seat.table_id

  -- the worker is done with all nodes that it deleted, and its last call was answered, where it does not
  -- go on without room
  pub record IsAtWork (no_room : NoRoom) (p : Problem) (w : Worker LEVELS) : Type 0 where
    pub worked : HasWorked p (work_by w)
    pub answered : no_room ≡ Refuses → EndsAnswered w.member.number (own_steps w.member)

  -- The worker stopped with this list: its last insertion was refused for the reason that it has. Where it has none,
  -- its last call was answered, if it does not go on without room.
  abbrev pub HasStoppedAt : NoRoom → Worker LEVELS → List Entry → Type 0
  HasStoppedAt no_room w es = MatchOption w.refused
      (no_room ≡ Refuses → EndsAnswered w.member.number es)
      (EndsRefused LEVELS w.member.sizes.k w.member.number es)

  -- where it was refused, memory was wanted, and no room
  abbrev pub LacksNoRoom : Worker LEVELS → Type 0
  LacksNoRoom w = IfSome w.refused (λ why. why ≡ NoMemory)

  -- its last insertion was refused for this reason, and it has made none
  pub record WasRefusedFirst (w : Worker LEVELS) : Type 0 where
    pub why : Refusal
    pub refused : w.refused ≡ Some why
    pub ended : EndsRefused LEVELS w.member.sizes.k w.member.number (own_steps w.member) why
    pub none_inserted : inserted (own_steps w.member) ≡ []

  -- the worker's list goes on to this one by calls of its member, and its picker to this one by these
  abbrev pub KeepsCourseTo : Worker LEVELS → Lcg → List Entry → Type 0
  KeepsCourseTo before picker es = (first : Lcg)
      → IsOnCourse (CallsOfWorker LEVELS before.member.sizes before.member.number) first before.picker
      (own_steps before.member)
      → IsOnCourse (CallsOfWorker LEVELS before.member.sizes before.member.number) first picker es

  abbrev pub KeepsCourse : Worker LEVELS → Worker LEVELS → Type 0
  KeepsCourse before after = KeepsCourseTo before after.picker (own_steps after.member)

  -- a list is that of calls by the picker whose seed is the worker's number, and which began once
  abbrev pub GoesByItsSeedTo : Worker LEVELS → List Entry → Type 0
  GoesByItsSeedTo w es = IsOnCourse (CallsOfWorker LEVELS w.member.sizes w.member.number)
      (generator_of w.member.number) w.picker es

  abbrev pub GoesByItsSeed : Worker LEVELS → Type 0
  GoesByItsSeed w = GoesByItsSeedTo w (own_steps w.member)

  -- the worker ran until it was idle or refused, and then shared its items
  pub record HasRun (no_room : NoRoom) (p : Problem) (idle : ℕ) (before after : Worker LEVELS) : Type 0 where
    -- its list when it stopped
    pub stopped : List Entry
    pub same : IsSameWorker before after
    pub stops : HasStoppedAt no_room after stopped
    pub room : no_room ≡ SearchesAlone → LacksNoRoom after
    pub course : KeepsCourseTo before after.picker stopped
    pub worked : after.refused ≡ None → HasWorked p (work_by after)
    pub inserts : after.refused ≡ None
        → InsertsNodes p (work_by before).inserted (work_by after).inserted
    pub idles : after.refused ≡ None
        → IsIdle idle after.member.sizes.quota (own_steps before.member) stopped
    pub shares : SharesOrKeeps LEVELS after.member.number stopped (own_steps after.member)

  -- how a worker ended that ran, by its list from the first step on
  pub record HasEndedSo (no_room : NoRoom) (idle : ℕ) (w : Worker LEVELS) : Type 0 where
    -- its list when it stopped
    pub stopped : List Entry
    pub stops : HasStoppedAt no_room w stopped
    pub course : GoesByItsSeedTo w stopped
    pub idles : w.refused ≡ None → IsIdle idle w.member.sizes.quota [] stopped
    pub shares : SharesOrKeeps LEVELS w.member.number stopped (own_steps w.member)

  -- the workers of a search: theirs are the members of its board, in the order of their numbers, and seats
  -- at its incumbent
  pub record AreWorkersOf (state : SearchState LEVELS) (crew : List (Worker LEVELS)) : Type 0 where
    pub members : AreMembersOf state.board (map (λ w. w.member) crew)
    pub seats : All (λ w. IsSeatAt state.incumbent w.seat) crew
    pub some_worker : 0 < length crew

  -- a worker that has not begun
  pub record HasNotBegun (w : Worker LEVELS) : Type 0 where
    pub steps : own_steps w.member ≡ []
    pub found : found_by w.seat ≡ 0
    pub refused : w.refused ≡ None

  -- the first worker was refused the root, and the others have not begun
  abbrev pub RootWasRefused : List (Worker LEVELS) → Type 0
  RootWasRefused [] = ⊥
  RootWasRefused (first ∷ others) = WasRefusedFirst first × All HasNotBegun others

  -- how the workers of a search ended: each of them ran; or none did, and each list is that of calls by a seed too
  abbrev pub HaveEndedSo : NoRoom → ℕ → List (Worker LEVELS) → Type 0
  HaveEndedSo no_room idle crew = All (HasEndedSo no_room idle) crew
      ⊎ (RootWasRefused crew × All GoesByItsSeed crew)

  -- workers that go on without room did not lack it, unless the root was refused
  abbrev pub GoOnWithoutRoom : NoRoom → List (Worker LEVELS) → Type 0
  GoOnWithoutRoom no_room crew = no_room ≡ SearchesAlone → All LacksNoRoom crew ⊎ RootWasRefused crew

  -- no worker was refused, and together they are done with all nodes but those left, the root first
  pub record HaveWorked (p : Problem) (crew : List (Worker LEVELS)) : Type 0 where
    pub root : HasNode (flat_map (λ w. (work_by w).inserted) crew) 0 0
    pub each : All (λ w. HasWorked p (work_by w)) crew

-- the first n of the nodes left are finished: no completion is above the value
abbrev pub AreFinished : Problem → List Item → ℕ → ℕ → Type 0
AreFinished p left n value = (k : ℕ) (x : Item) → k < n → slice_get left k ≡ Some x
    → IsNodeItem p x → NoneAbove p (level_in x.load) (picks_in x.load) value

-- All nodes but those left are done with: workers inserted and deleted, the root first, and what
-- they inserted and did not delete is left. No number that they found is above the last one.
pub record IsSearched (p : Problem) (number : ℕ) (left : List Item) : Type 0 where
  pub works : List Work
  pub root : HasNode (all_inserted works) 0 0
  pub none_lost : (x : Item) → Contains (all_inserted works) x
      → Contains (all_deleted works) x ⊎ Contains left x
  pub have_worked : AllByRecursion (HasWorked p) works
  pub found : AllByRecursion (λ w. w.found ≤ number) works
