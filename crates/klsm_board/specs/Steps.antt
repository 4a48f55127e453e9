-- What each step on a lock or on the front tells.
use Rattle.std.specs.Prelude.{◌≡◌, ◌≢◌, ℕ, ◌-◌, ◌<◌, ◌≤◌, ◌==◌, ltb, List, [], ◌∷◌, ◌++◌, MatchBool}
use mathlib.Core.Option.{some}
use lib.ListN.{get_elem?}
use Rattle.atomic_table.specs.Table.{Me, Step, step, rest}
use Rattle.klsm_run.specs.declared.item.Item.{Item}
use Rattle.klsm_parts.specs.Events.{front_of}
use Rattle.klsm_schedules.specs.declared.step.Event.{Event}
use Rattle.klsm_schedules.specs.declared.step.Event.TheVariants.{Early}
use Rattle.klsm_schedules.specs.declared.step.Entry.{Entry}
use Rattle.klsm_schedules.specs.declared.step.Entry.TheVariants.{Acquired, Committed, Released, Missed, Looked, Marked, Saw}
use Rattle.klsm_schedules.specs.declared.step.Step.{Step as WorldStep}
use Rattle.klsm_schedules.specs.Laws.{IsWithinQuota}
use Rattle.klsm_schedules.specs.OwnSteps.{HoldsSome, no_key, shared_part}
use Rattle.klsm_schedules.specs.Worlds.{World, steps_of, hand_in, content_of}
use Rattle.klsm_schedules.specs.Schedules.{Leads}
use Rattle.klsm_board.specs.declared.sizes.Sizes.{Sizes}
use Rattle.klsm_board.specs.declared.rule.Own.{Own}
use Rattle.klsm_board.specs.declared.rule.View.{View}
use Rattle.klsm_board.specs.Rule.{own, view, place, mark_place, world_limits}
use Rattle.klsm_board.specs.Turning.{turned}

-- the first list gains an entry
abbrev pub gained : List Own → Entry → List Own
gained [] e = []
gained (o ∷ os) e = own o.thread (o.steps ++ e ∷ []) ∷ os

abbrev pub gain : View → Entry → View
gain v e = view (gained v.lists e)

-- the first list, which is that of a member's seat
abbrev pub mine_or : List Own → List Entry
mine_or [] = []
mine_or (o ∷ os) = o.steps

abbrev pub mine : View → List Entry
mine v = mine_or v.lists

-- the lists behind the first, and the first alone
abbrev pub others : List Own → List Own
others [] = []
others (o ∷ os) = os

abbrev pub first_of_all : List Own → List Own
first_of_all [] = []
first_of_all (o ∷ os) = o ∷ []

-- what a view has behind its first list
abbrev pub rest_of : View → List Own
rest_of v = others v.lists

-- a seat acts for thread t: it knows its list, and behind it perhaps those of other threads
abbrev pub IsMine : View → ℕ → Type 0
IsMine v t = v.lists ≡ own t (mine v) ∷ rest_of v

-- The first list is thread t's, and each list is that of its thread, in one world to which some schedule
-- of legal steps leads, and in which no thread made more insertions than the quota.
pub record AreReached (m : Sizes) (t : ℕ) (v : View) : Type 0 where
  pub world : World
  pub schedule : List WorldStep
  pub leads : Leads (world_limits m) schedule world
  pub within : IsWithinQuota (world_limits m) m.quota world
  pub list_is : steps_of world t ≡ mine v
  pub thread : t < m.threads
  pub has : (i : ℕ) (o : Own) → get_elem? v.lists i ≡ some o
      → get_elem? world.lists o.thread ≡ some o.steps

-- The same of a world with this front: the key of its least shared item, and the greatest number where no item
-- is shared, so no key of a shared item is less.
pub record HasFront (m : Sizes) (t : ℕ) (v : View) (front : ℕ) : Type 0 where
  pub reached : AreReached m t v
  pub front_is : front ≡ front_of (content_of reached.world shared_part)

-- And of a world in which another thread holds this part.
pub record HasHolder (m : Sizes) (t : ℕ) (v : View) (part by : ℕ) : Type 0 where
  pub reached : AreReached m t v
  pub thread : by < m.threads
  pub another : by ≢ t
  pub holds : HoldsSome (hand_in reached.world by) part

module _ {S : Type 0} where
  -- what a step on the lock word of a part tells, with the part in place of the word
  abbrev pub on_part : (Step S → Me S View → ℕ → Me S View → Type 0) → Step S → Me S View → ℕ → Me S View → Type 0
  on_part then st me n me' = (p : ℕ) → place p ≡ st.word
      → then (step st.slots p st.first st.second st.said) me n me'

  -- what a step on the word of a thread's mark tells, with the thread in place of the word
  abbrev pub on_mark : (Step S → Me S View → ℕ → Me S View → Type 0) → Step S → Me S View → ℕ → Me S View → Type 0
  on_mark then st me n me' = (u : ℕ) → mark_place u ≡ st.word
      → then (step st.slots u st.first st.second st.said) me n me'

  -- the lists are those of their threads in a world to which a schedule leads
  abbrev pub is_reached : Sizes → ℕ → Me S View → Type 0
  is_reached m t me' = AreReached m t me'.0

  -- another thread held the part, in a world of the lists that the seat knew
  abbrev pub missed : Sizes → ℕ → Step S → Me S View → ℕ → Me S View → Type 0
  missed m t st me n me' = (me' ≡ (gain me.0 (Missed st.word (n - 1)), me.1)) × (n ≤ m.threads)
      × HasHolder m t me.0 st.word (n - 1)

  -- the part was free, and came to the seat; or another thread held it
  abbrev pub attempted : (S → List Item) → (ℕ → ℕ → S → Type 0) → Sizes → ℕ → Step S → Me S View → ℕ → Me S View → Type 0
  attempted content suits m t st me n me' =
      MatchBool (n == 0)
      ((y : S) × suits m.k st.word y
      × (me' ≡ (gain me.0 (Acquired st.word (content y)), (st.word, y) ∷ me.1)))
      (missed m t st me n me')
      × is_reached m t me'

  -- the part was free, and nothing changed; or another thread held it
  abbrev pub watched : Sizes → ℕ → Step S → Me S View → ℕ → Me S View → Type 0
  watched m t st me n me' = MatchBool (n == 0) (me' ≡ me) (missed m t st me n me') × is_reached m t me'

  -- the part was released
  abbrev pub released : Sizes → ℕ → Step S → Me S View → ℕ → Me S View → Type 0
  released m t st me n me' =
      (me' ≡ (gain me.0 (Released st.word), rest me.1)) × is_reached m t me'

  -- some event that fits was committed, and the part released
  abbrev pub committed : (Event → Type 0) → Sizes → ℕ → Step S → Me S View → ℕ → Me S View → Type 0
  committed fits m t st me n me' = (e : Event) × fits e
      × (me' ≡ (gain (gain me.0 (Committed e)) (Released st.word), rest me.1))
      × is_reached m t me'

  -- some event that fits was committed by a store of the front
  abbrev pub set_front : (Event → Type 0) → Sizes → ℕ → Step S → Me S View → ℕ → Me S View → Type 0
  set_front fits m t st me n me' = (e : Event) × fits e × (me' ≡ (gain me.0 (Committed e), me.1)) × is_reached m t me'

  -- the front was loaded, in a world of that front: an item whose key is below it was deleted by it, and else
  -- the look was noted
  abbrev pub looked : Item → Sizes → ℕ → Step S → Me S View → ℕ → Me S View → Type 0
  looked x m t st me n me' =
      MatchBool (ltb x.key n)
      ((me' ≡ (gain me.0 (Committed (Early x n)), me.1)) × is_reached m t me'
      × ((before : AreReached m t me.0) × (before.world.front ≡ n)))
      ((me' ≡ (gain me.0 (Looked n), me.1)) × is_reached m t me')

  -- the front was loaded, in a world of that front, and that was noted
  abbrev pub glanced : Sizes → ℕ → Step S → Me S View → ℕ → Me S View → Type 0
  glanced m t st me n me' = (me' ≡ (gain me.0 (Looked n), me.1)) × is_reached m t me' × HasFront m t me.0 n

  -- thread t's mark was set to what the word stored is below the greatest number
  abbrev pub mark_stored : Sizes → ℕ → Step S → Me S View → ℕ → Me S View → Type 0
  mark_stored m t st me n me' = (me' ≡ (gain me.0 (Marked (no_key - n)), me.1)) × is_reached m t me'

  -- the key that a thread works at was seen, by its mark
  abbrev pub saw : Sizes → ℕ → Step S → Me S View → ℕ → Me S View → Type 0
  saw m t st me n me' = (me' ≡ (gain me.0 (Saw st.word (no_key - n)), me.1)) × is_reached m t me'

  -- thread t's list came to the front of those that the seat knows, and they are of one world
  abbrev pub turned_to : Sizes → ℕ → Step S → Me S View → ℕ → Me S View → Type 0
  turned_to m t st me n me' = (me' ≡ (view (turned t me.0.lists), me.1)) × is_reached m t me'
