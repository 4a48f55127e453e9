-- Lawful worlds.
use Rattle.std.specs.Prelude.{ℕ, ◌≡◌, ◌≢◌, ◌+◌, ◌<◌, ◌≤◌, List, length, Some, None}
use Rattle.std.specs.List.{flat_map}
use Rattle.klsm_run.specs.declared.item.Item.{Item}
use Rattle.klsm_parts.specs.Events.{times, front_of}
use Rattle.klsm_schedules.specs.OwnSteps.{Holds, HoldsSome, shared_part, own_part, inserted, deleted}
use Rattle.klsm_schedules.specs.LegalSteps.{IsLegal}
use Rattle.klsm_schedules.specs.Worlds.{Limits, World, word_of, home_of, steps_of, hand_in, content_of, live}

-- part p is not at home, but in the hand of the thread that its word names
pub record IsHeld (limits : Limits) (w : World) (p : ℕ) : Type 0 where
  pub by : ℕ
  pub thread : by < limits.threads
  pub word : word_of w p ≡ by + 1
  pub away : home_of w p ≡ None
  pub held : HoldsSome (hand_in w by) p

-- the words, the contents at home and the hands agree
pub record AreAgreed (limits : Limits) (w : World) : Type 0 where
  -- a word and a home for each part, and a list for each thread
  pub words_are : length w.words ≡ limits.threads + 1
  pub homes_are : length w.homes ≡ limits.threads + 1
  pub lists_are : length w.lists ≡ limits.threads
  -- a free part is at home
  pub free : (p : ℕ) → p ≤ limits.threads → word_of w p ≡ 0
      → (c : List Item) × (home_of w p ≡ Some c)
  -- and another part is held
  pub held : (p : ℕ) → p ≤ limits.threads → word_of w p ≢ 0 → IsHeld limits w p
  -- what a thread's hand has bears its word
  pub named : (t p : ℕ) (c : List Item) → t < limits.threads → Holds (hand_in w t) p c
      → (p ≤ limits.threads) × (word_of w p ≡ t + 1)

pub record IsLawful (limits : Limits) (w : World) : Type 0 where
  pub legal : (t : ℕ) → t < limits.threads → IsLegal limits.k t (steps_of w t)
  pub agreed : AreAgreed limits w
  -- an own part has at most k items
  pub few : (t : ℕ) → t < limits.threads → length (content_of w (own_part t)) ≤ limits.k
  -- the front word is the front of the shared part, be it free or held
  pub front_is : w.front ≡ front_of (content_of w shared_part)
  -- what was inserted is what was deleted and what is live, each as often
  pub each_once : (x : Item)
      → times x (flat_map inserted w.lists) ≡ times x (flat_map deleted w.lists) + times x (live w)
