-- Worlds of T threads and T + 1 parts.
use Rattle.std.specs.Prelude.{ℕ, zero, suc, ◌+◌, ◌-◌, List, [], ◌++◌, length, replicate, slice_index_or, Option, Some, None, unwrap_or}
use Rattle.klsm_run.specs.declared.item.Item.{Item}
use Rattle.klsm_parts.specs.Events.{front_of}
use Rattle.klsm_schedules.specs.declared.step.Entry.{Entry}
use Rattle.klsm_schedules.specs.OwnSteps.{Hand, content_in, hand_of}

-- how many threads there are, and how many items an own part may have
pub record Limits : Type 0 where
  pub threads : ℕ
  pub k : ℕ

-- the limits of so many threads and this k
abbrev pub limits_of : ℕ → ℕ → Limits
limits_of threads k = record { threads = threads; k = k }

-- for each part a word, 0 where it is free and t + 1 where thread t holds it, and its content at
-- home, where it is free; the front word; for each thread the list of its own steps
pub record World : Type 0 where
  pub words : List ℕ
  pub front : ℕ
  pub homes : List (Option (List Item))
  pub lists : List (List Entry)

abbrev pub word_of : World → ℕ → ℕ
word_of w p = slice_index_or w.words p 0

abbrev pub home_of : World → ℕ → Option (List Item)
home_of w p = slice_index_or w.homes p None

-- thread t's own steps, and its hand
abbrev pub steps_of : World → ℕ → List Entry
steps_of w t = slice_index_or w.lists t []

abbrev pub hand_in : World → ℕ → Hand
hand_in w t = hand_of t (steps_of w t)

-- the thread that holds a part which is not free
abbrev pub holder_of : World → ℕ → ℕ
holder_of w p = word_of w p - 1

-- the content of a part: the one at home, or else the one in its holder's hand
abbrev pub content_of : World → ℕ → List Item
content_of w p = unwrap_or (home_of w p) (content_in (hand_in w (holder_of w p)) p)

-- the live items of the first n parts
abbrev pub live_below : World → ℕ → List Item
live_below w zero = []
live_below w (suc n) = live_below w n ++ content_of w n

-- the live items: those of all parts, free and held
abbrev pub live : World → List Item
live w = live_below w (length w.homes)

-- at first all parts are free and empty, the front is that of no item, and no thread has stepped
abbrev pub first_world : Limits → World
first_world limits = record {
  words = replicate (limits.threads + 1) 0;
  front = front_of [];
  homes = replicate (limits.threads + 1) (Some []);
  lists = replicate limits.threads [];
}
