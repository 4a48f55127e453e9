-- Which events a thread may commit, and which lists of own steps are legal.
use Rattle.std.specs.Prelude.{ℕ, ◌≡◌, ◌≢◌, ◌≤◌, ◌⊎◌, List, length, take, slice_get, Some, None}
use Rattle.klsm_run.specs.declared.item.Item.{Item}
use Rattle.klsm_parts.specs.Events.{MayPut, MayFlush, MayTake, MayTakeEarly, MayFindNothing, MaySpy, MayRefill}
use Rattle.klsm_parts.specs.Stealing.{MaySteal}
use Rattle.klsm_parts.specs.Sharing.{MayShare}
use Rattle.klsm_schedules.specs.declared.step.Event.{Event}
use Rattle.klsm_schedules.specs.declared.step.Event.TheVariants.{Put, Flush, Take, Early, Nothing, Spy, Refill, Steal, Share}
use Rattle.klsm_schedules.specs.declared.step.Entry.{Entry}
use Rattle.klsm_schedules.specs.declared.step.Entry.TheVariants.{Acquired, Committed, Released, Missed, Looked, Marked, Saw}
use Rattle.klsm_schedules.specs.OwnSteps.{Hand, Holds, HoldsSome, found_in, shared_part, own_part, hand_of, inserted, no_key, work_of}

-- an item bears the stamp of a thread's next insertion, after n of them
pub record BearsStamp (t n : ℕ) (x : Item) : Type 0 where
  pub owner : x.stamp.owner ≡ t
  pub number : x.stamp.number ≡ n

-- thread t holds its own part, and this is true of its content
pub record HoldsOwn (t : ℕ) (hand : Hand) (Fits : List Item → Type 0) : Type 0 where
  pub own : List Item
  pub holds_own : Holds hand (own_part t) own
  pub fits : Fits own

-- thread t holds its own part and another, p, and this is true of their contents
pub record HoldsBoth (t p : ℕ) (hand : Hand) (Fits : List Item → List Item → Type 0) : Type 0 where
  pub own : List Item
  pub other : List Item
  pub holds_own : Holds hand (own_part t) own
  pub holds_other : Holds hand p other
  pub fits : Fits own other

-- thread t, after n insertions, may insert an item: this is true of the parts that it holds, and
-- the item bears the next stamp
pub record MayInsert (t n : ℕ) (x : Item) (Held : Type 0) : Type 0 where
  pub held : Held
  pub stamp : BearsStamp t n x

-- thread t may spy on a victim, or steal from it: this is true of the parts that it holds, and the victim is another
pub record MaySpyOn (t victim : ℕ) (Held : Type 0) : Type 0 where
  pub held : Held
  pub another : victim ≢ t

-- thread t, with this hand and after n insertions, may commit an event
abbrev pub MayCommit : ℕ → ℕ → Hand → ℕ → Event → Type 0
MayCommit k t hand n (Put x) = MayInsert t n x (HoldsOwn t hand (λ own. MayPut k own))
MayCommit k t hand n (Flush x moved) =
    MayInsert t n x (HoldsBoth t shared_part hand (λ own shared. MayFlush k own x moved))
MayCommit k t hand n (Take x) = HoldsBoth t shared_part hand (λ own shared. MayTake k t own shared x)
MayCommit k t hand n (Early x front) = HoldsOwn t hand (λ own. MayTakeEarly own x front)
MayCommit k t hand n Nothing = HoldsBoth t shared_part hand MayFindNothing
MayCommit k t hand n (Spy victim moved) =
    MaySpyOn t victim (HoldsBoth t (own_part victim) hand (λ own from. MaySpy own from moved))
MayCommit k t hand n (Refill moved) =
    HoldsBoth t shared_part hand (λ own shared. MayRefill k own shared moved)
MayCommit k t hand n (Steal victim moved) =
    MaySpyOn t victim (HoldsBoth t (own_part victim) hand (λ own from. MaySteal k own from moved))
MayCommit k t hand n (Share moved) =
    HoldsBoth t shared_part hand (λ own shared. MayShare own moved)

-- a part that is not in the hand was found with this content; an own part has at most k items
pub record MayFind (k : ℕ) (hand : Hand) (p : ℕ) (found : List Item) : Type 0 where
  pub lacking : found_in hand p ≡ None
  pub few : p ≢ shared_part → length found ≤ k

-- thread t may go on from its own steps so far with this one
abbrev pub MayFollow : ℕ → ℕ → List Entry → Entry → Type 0
MayFollow k t before (Acquired p found) = MayFind k (hand_of t before) p found
MayFollow k t before (Committed event) =
    MayCommit k t (hand_of t before) (length (inserted before)) event
MayFollow k t before (Released p) = HoldsSome (hand_of t before) p
MayFollow k t before (Missed p by) = found_in (hand_of t before) p ≡ None
MayFollow k t before (Looked front) = Unit {0}
MayFollow k t before (Marked key) =
    HoldsSome (hand_of t before) (own_part t) × ((key ≡ work_of before) ⊎ (key ≡ no_key))
MayFollow k t before (Saw u key) = HoldsSome (hand_of t before) (own_part u)

-- each entry of thread t's list may follow those before it
abbrev pub IsLegal : ℕ → ℕ → List Entry → Type 0
IsLegal k t own = (i : ℕ) (entry : Entry) → slice_get own i ≡ Some entry
    → MayFollow k t (take i own) entry
