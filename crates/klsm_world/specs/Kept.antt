-- How the running world keeps what it shows. No public contract speaks of it.
use Rattle.std.specs.Prelude.{ℕ, ◌≡◌, ◌+◌, ◌≤◌, ◌==◌, if◌then◌else◌, List, [], ◌∷◌, length, slice_index_or, Option, Some, None}
use Rattle.klsm_run.specs.declared.item.Item.{Item}
use Rattle.klsm_run.specs.Content.{sorted}
use Rattle.klsm_parts.specs.Events.{front_of}
use Rattle.klsm_schedules.specs.declared.step.Event.TheVariants as event
use Rattle.klsm_schedules.specs.declared.step.Entry.{Entry}
use Rattle.klsm_schedules.specs.declared.step.Entry.TheVariants as entry
use Rattle.klsm_world.specs.declared.own_steps.KeptStep.{KeptStep}
use Rattle.klsm_world.specs.declared.own_steps.KeptStep.TheVariants.{Acquired, Put, Flush, Take, Early, Nothing, Spy, Refill, Steal, Share, Released, Missed, Looked, Marked, Saw}
use Rattle.klsm_schedules.specs.Worlds.{Limits, World, word_of, content_of}
use Rattle.klsm_schedules.specs.LawfulWorlds.{IsLawful}
use Rattle.klsm_world.specs.WorldView.{AreLimits}

-- an entry of a thread's list, by its kind and the items found or moved
abbrev pub entry_of : KeptStep → List Item → Entry
entry_of (Acquired p) items = entry.Acquired p items
entry_of (Put x) items = entry.Committed (event.Put x)
entry_of (Flush x) items = entry.Committed (event.Flush x items)
entry_of (Take x) items = entry.Committed (event.Take x)
entry_of (Early x front) items = entry.Committed (event.Early x front)
entry_of Nothing items = entry.Committed event.Nothing
entry_of (Spy victim) items = entry.Committed (event.Spy victim items)
entry_of (Steal victim) items = entry.Committed (event.Steal victim items)
entry_of Refill items = entry.Committed (event.Refill items)
entry_of Share items = entry.Committed (event.Share items)
entry_of (Released p) items = entry.Released p
entry_of (Missed p by) items = entry.Missed p by
entry_of (Looked front) items = entry.Looked front
entry_of (Marked key) items = entry.Marked key
entry_of (Saw u key) items = entry.Saw u key

-- what is at home, by the words and what each part has now, free or held
abbrev pub homes_of : List ℕ → List (List Item) → List (Option (List Item))
homes_of (word ∷ words) (c ∷ contents) =
    (if word == 0 then Some c else None) ∷ homes_of words contents
homes_of _ _ = []

abbrev pub world_of : List ℕ → List (List Item) → List (List Entry) → World
world_of words contents lists = record {
  words = words;
  front = front_of (slice_index_or contents 0 []);
  homes = homes_of words contents;
  lists = lists;
}

-- what the running world keeps is a lawful world, with each part's content at hand in ascending
-- order
pub record IsKept (limits : Limits) (words : List ℕ) (contents : List (List Item))
    (lists : List (List Entry)) : Type 0 where
  pub limits_are : AreLimits limits
  pub lawful : IsLawful limits (world_of words contents lists)
  pub contents_are : length contents ≡ limits.threads + 1
  pub current : (p : ℕ) → p ≤ limits.threads
      → content_of (world_of words contents lists) p ≡ slice_index_or contents p []
  pub ascending : (p : ℕ) → p ≤ limits.threads
      → sorted (slice_index_or contents p []) ≡ slice_index_or contents p []

-- thread t holds each of these parts
abbrev pub HoldsAll : World → ℕ → List ℕ → Type 0
HoldsAll w t [] = Unit {0}
HoldsAll w t (p ∷ parts) = (word_of w p ≡ t + 1) × HoldsAll w t parts
