-- What a bound adds to its member's list, and in which world it is the least key of all live items, and of all in work.
use Rattle.std.specs.Prelude.{◌≡◌, ℕ, zero, suc, ◌≤◌, List, [], ◌∷◌, ◌++◌, length, ltb, if◌then◌else◌, min}
use Rattle.klsm_run.specs.declared.item.Item.{Item}
use Rattle.klsm_parts.specs.Events.{front_of}
use Rattle.klsm_schedules.specs.declared.step.Entry.{Entry}
use Rattle.klsm_schedules.specs.declared.step.Entry.TheVariants.{Acquired, Released, Missed, Saw}
use Rattle.klsm_schedules.specs.OwnSteps.{Hand, hand_of, no_key, own_part, shared_part}
use Rattle.klsm_schedules.specs.Worlds.{live}
use Rattle.klsm_schedules.specs.LiveLaws.{HasAllParts}
use Rattle.klsm_schedules.specs.WorkLaws.{least_work}
use Rattle.klsm_board.specs.declared.bounding.Bound.{Bound}
use Rattle.klsm_board.specs.declared.errors.Busy.{Busy}
use Rattle.klsm_board.specs.declared.rule.Own.{Own}
use Rattle.klsm_board.specs.declared.sizes.Sizes.{Sizes}
use Rattle.klsm_board.specs.Effects.{committed_in}
use Rattle.klsm_board.specs.Rule.{own, view}
use Rattle.klsm_board.specs.Steps.{AreReached}

-- the least key of some items, and the greatest number where there is none; and how many they are
pub record IsBoundOf (items : List Item) (bound : Bound) : Type 0 where
  pub least : bound.queue ≡ front_of items
  pub counted : bound.items ≡ length items

-- A list of contents stands for the own parts of threads 0, 1 and so on, that of the last one first: what they have together
abbrev pub owns_items : List (List Item) → List Item
owns_items [] = []
owns_items (c ∷ cs) = owns_items cs ++ c

-- and with the shared part
abbrev pub all_items : List (List Item) → List Item → List Item
all_items owns shared = shared ++ owns_items owns

-- a hand that acquired them in the order of the threads' numbers, and then the shared part
abbrev pub owns_in_hand : List (List Item) → Hand
owns_in_hand [] = []
owns_in_hand (c ∷ cs) = (own_part (length cs), c) ∷ owns_in_hand cs

abbrev pub all_in_hand : List (List Item) → List Item → Hand
all_in_hand owns shared = (shared_part, shared) ∷ owns_in_hand owns

-- the entries of that
abbrev pub owns_acquired : List (List Item) → List Entry
owns_acquired [] = []
owns_acquired (c ∷ cs) = owns_acquired cs ++ Acquired (own_part (length cs)) c ∷ []

abbrev pub all_acquired : List (List Item) → List Item → List Entry
all_acquired owns shared = owns_acquired owns ++ Acquired shared_part shared ∷ []

-- they are released in the opposite order, from that of thread n - 1 on
abbrev pub owns_released : ℕ → List Entry
owns_released zero = []
owns_released (suc n) = Released (own_part n) ∷ owns_released n

abbrev pub all_released : ℕ → List Entry
all_released threads = Released shared_part ∷ owns_released threads

-- A list of keys stands for those that threads 0, 1 and so on work at, that of the last one first: they were seen in
-- the order of the threads' numbers
abbrev pub keys_seen : List ℕ → List Entry
keys_seen [] = []
keys_seen (key ∷ keys) = keys_seen keys ++ Saw (length keys) key ∷ []

-- the least of them, and the greatest number where there is none
abbrev pub least_key : List ℕ → ℕ
least_key [] = no_key
least_key (key ∷ keys) = min key (least_key keys)

-- All parts were acquired, found with these contents, and then released. Between, the keys in work were seen.
pub record Bounds (threads : ℕ) (es es' : List Entry) (bound : Bound) : Type 0 where
  pub owns : List (List Item)
  pub shared : List Item
  pub keys : List ℕ
  pub all : length owns ≡ threads
  pub each : length keys ≡ threads
  pub is : IsBoundOf (all_items owns shared) bound
  pub work : bound.work ≡ least_key keys
  pub steps : es' ≡ ((es ++ all_acquired owns shared) ++ keys_seen keys) ++ all_released threads

-- Thread t's list went from es to es'. Between, when it had `added` behind es and had committed no event since, the
-- thread had all parts in hand: that list, and those of the other threads that the seat knows, were then those of one
-- world to which a schedule leads, and this is the bound of the items that lived there, and of the keys in work.
pub record SeesAllLive (m : Sizes) (t : ℕ) (behind : List Own) (es es' : List Entry) (bound : Bound) : Type 0 where
  pub added : List Entry
  pub after : List Entry
  pub steps : es' ≡ (es ++ added) ++ after
  pub none : committed_in added ≡ []
  pub in_hand : HasAllParts m.threads (hand_of t (es ++ added))
  pub reached : AreReached m t (view (own t (es ++ added) ∷ behind))
  pub is : IsBoundOf (live reached.world) bound
  pub work : bound.work ≡ least_work reached.world.lists

-- the lock that is tried behind those of n own parts
abbrev pub lock_behind : ℕ → ℕ → ℕ
lock_behind threads n = if ltb n threads then own_part n else shared_part

-- Some own parts were acquired, the next lock was not free, and they were released.
pub record MissesSome (threads : ℕ) (es es' : List Entry) (busy : Busy) : Type 0 where
  pub owns : List (List Item)
  pub within : length owns ≤ threads
  pub lock : busy.lock ≡ lock_behind threads (length owns)
  pub steps : es' ≡ (es ++ owns_acquired owns) ++ Missed busy.lock busy.by ∷ owns_released (length owns)

-- so many tries of which each met such a lock, one after another
abbrev pub MissesSomeTimes : ℕ → ℕ → List Entry → List Entry → Type 0
MissesSomeTimes zero threads es es' = es' ≡ es
MissesSomeTimes (suc n) threads es es' = (before : List Entry) × (busy : Busy)
    × MissesSomeTimes n threads es before × MissesSome threads before es' busy

-- a bound that may wait: some tries are refused for a lock, and the next one is not
pub record BoundsWaiting (threads : ℕ) (es es' : List Entry) (bound : Bound) : Type 0 where
  pub tries : ℕ
  pub now : List Entry
  pub missed : MissesSomeTimes tries threads es now
  pub bounds : Bounds threads now es' bound
