-- The rule of the board's table: its words, what is at home in its slots, and what its seats know
-- are a world to which some schedule of legal steps leads.
use Rattle.std.specs.Prelude.{◌≡◌, ◌≢◌, ℕ, zero, suc, ◌+◌, ◌*◌, ◌<◌, ◌≤◌, ◌==◌, if◌then◌else◌, length, slice_index, List, [], ◌∷◌, map, Some, None, Option}
use mathlib.Core.Option.{none, some}
use mathlib.Core.Option.{Option as Maybe}
use lib.ListN.{get_elem?}
use Rattle.atomic_table.specs.Table.{State}
use Rattle.atomic_table.specs.Seated.{TableId}
use Rattle.klsm_run.specs.declared.item.Item.{Item}
use Rattle.klsm_run.specs.declared.limits.TheConstants.{MOST_THREADS}
use Rattle.klsm_schedules.specs.declared.step.Entry.{Entry}
use Rattle.klsm_schedules.specs.declared.step.Step.{Step as WorldStep}
use Rattle.klsm_schedules.specs.OwnSteps.{found_in, hand_of, inserted, mark_of, no_key, own_part, work_of}
use Rattle.klsm_schedules.specs.Laws.{IsWithinQuota}
use Rattle.klsm_schedules.specs.Worlds.{Limits, World, steps_of}
use Rattle.klsm_schedules.specs.Schedules.{Leads}
use Rattle.klsm_board.specs.declared.sizes.Sizes.{Sizes}
use Rattle.klsm_board.specs.declared.rule.Own.{Own}
use Rattle.klsm_board.specs.declared.rule.View.{View}
use Rattle.klsm_board.specs.declared.rule.TheConstants.{STRIDE}

-- a thread with its own steps, and a view of such
abbrev pub own : ℕ → List Entry → Own
own t es = record { thread = t; steps = es }

abbrev pub view : List Own → View
view os = record { lists = os }

-- the limits of the world that a board stands for
abbrev pub world_limits : Sizes → Limits
world_limits m = record { threads = m.threads; k = m.k }

-- the word of the table that is the lock of a part; behind them comes the front word
abbrev pub place : ℕ → ℕ
place p = p * STRIDE

-- the word of a thread's mark, which comes right behind the lock of its own part
abbrev pub mark_place : ℕ → ℕ
mark_place t = place (own_part t) + 1

-- the lock words of n parts, from part p on
abbrev pub locks_from : ℕ → ℕ → List ℕ → List ℕ
locks_from p zero ws = []
locks_from p (suc n) ws = slice_index ws (place p) ∷ locks_from (suc p) n ws

-- the lock words of the world, out of the words of the table
abbrev pub lock_words : Sizes → List ℕ → List ℕ
lock_words m ws = locks_from 0 (m.threads + 1) ws

-- the front word, which comes behind them
abbrev pub front_word : Sizes → List ℕ → ℕ
front_word m ws = slice_index ws (place (m.threads + 1))

-- empty lists for n threads from t on
abbrev pub fresh : ℕ → ℕ → List Own
fresh t zero = []
fresh t (suc n) = own t [] ∷ fresh (suc t) n

-- what the first seat knows
abbrev pub everyone : Sizes → View
everyone m = view (fresh 0 m.threads)

-- how many lists of thread t are among these
abbrev pub list_count : ℕ → List Own → ℕ
list_count t [] = 0
list_count t (o ∷ os) = (if o.thread == t then 1 else 0) + list_count t os

abbrev pub list_count_in : ℕ → List View → ℕ
list_count_in t [] = 0
list_count_in t (v ∷ vs) = list_count t v.lists + list_count_in t vs

module _ {S : Type 0} (content : S → List Item) where
  -- the content of a slot, where its part is at home
  abbrev pub content_at : Maybe S → Option (List Item)
  content_at none = None
  content_at (some y) = Some (content y)

  -- a world, out of its lock words, its front word, the slots and the lists
  abbrev pub board_world : List ℕ → ℕ → List (Maybe S) → List (List Entry) → World
  board_world ws front os ls = record { words = ws; front = front; homes = map content_at os; lists = ls }

pub record Ruled {S : Type 0} (content : S → List Item) (suits : ℕ → ℕ → S → Type 0) (m : Sizes) (s : State S View) : Type 0 where
  pub lists : List (List Entry)
  pub schedule : List WorldStep
  pub wide : length s.words ≡ place (m.threads + 2)
  -- a word that is no lock, not the front and no mark stays 0
  pub between : (i : ℕ) → ((p : ℕ) → i ≢ place p) → ((t : ℕ) → i ≢ mark_place t) → slice_index s.words i ≡ 0
  -- the schedule leads to this world
  pub leads : Leads (world_limits m) schedule (board_world content (lock_words m s.words) (front_word m s.words) s.homes lists)
  -- the views have the world's lists, and together each of them once
  pub dealt : (j : ℕ) (v : View) → get_elem? s.views j ≡ some v
      → (i : ℕ) (o : Own) → get_elem? v.lists i ≡ some o
      → get_elem? lists o.thread ≡ some o.steps
  pub once : (t : ℕ) → t < m.threads → list_count_in t s.views ≡ 1
  -- each part that is at home is in its slot
  pub suited : (p : ℕ) (y : S) → get_elem? s.homes p ≡ some (some y) → suits m.k p y
  -- the word of a thread's mark says how far the mark is below the greatest number
  pub marks : (t : ℕ) (es : List Entry) → get_elem? lists t ≡ some es
      → slice_index s.words (mark_place t) + mark_of es ≡ no_key
  -- and who does not have its own part in hand has marked the key that it works at
  pub marked : (t : ℕ) (es : List Entry) → get_elem? lists t ≡ some es
      → found_in (hand_of t es) (own_part t) ≡ None → mark_of es ≡ work_of es
  -- no list has more insertions than the quota
  pub within : (t : ℕ) (es : List Entry) → get_elem? lists t ≡ some es
      → length (inserted es) ≤ m.quota

-- This is thread t's list in a world to which some schedule of legal steps leads, and in which no
-- thread made more insertions than the quota.
pub record IsReached (m : Sizes) (t : ℕ) (es : List Entry) : Type 0 where
  pub world : World
  pub schedule : List WorldStep
  pub leads : Leads (world_limits m) schedule world
  pub within : IsWithinQuota (world_limits m) m.quota world
  pub list_is : steps_of world t ≡ es
  pub thread : t < m.threads

-- a lock, in its place, and a slot for each part, and the front word
abbrev pub IsSized : TableId → Sizes → Type 0
IsSized z m = (z.words ≡ place (m.threads + 2)) × (z.slots ≡ m.threads + 1) × (m.threads ≤ MOST_THREADS)
