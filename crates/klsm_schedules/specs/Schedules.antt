-- Steps of a world: which are legal, to which world each leads, and schedules of them.
use Rattle.std.specs.Prelude.{ℕ, ◌≡◌, ◌≢◌, ◌+◌, ◌<◌, ◌≤◌, ◌⊎◌, List, [], ◌∷◌, ◌++◌, length, slice_set, Some, None, unwrap_or}
use Rattle.klsm_run.specs.declared.item.Item.{Item}
use Rattle.klsm_parts.specs.Events.{front_of}
use Rattle.klsm_schedules.specs.declared.step.Event.{Event}
use Rattle.klsm_schedules.specs.declared.step.Event.TheVariants.{Put, Flush, Take, Early, Nothing, Spy, Refill, Steal, Share}
use Rattle.klsm_schedules.specs.declared.step.Step.{Step}
use Rattle.klsm_schedules.specs.declared.step.Step.TheVariants.{Acquire, Commit, Release, Miss, Look, Mark, See}
use Rattle.klsm_schedules.specs.declared.step.Entry.{Entry}
use Rattle.klsm_schedules.specs.declared.step.Entry.TheVariants.{Acquired, Committed, Released, Missed, Looked, Marked, Saw}
use Rattle.klsm_schedules.specs.OwnSteps.{Hand, HoldsSome, own_part, shared_part, content_in, after_event, inserted, no_key, work_of}
use Rattle.klsm_schedules.specs.LegalSteps.{MayCommit}
use Rattle.klsm_schedules.specs.Worlds.{Limits, World, word_of, home_of, holder_of, steps_of, hand_in, first_world}

-- thread t may acquire part p, which is free
pub record MayAcquire (limits : Limits) (w : World) (t p : ℕ) : Type 0 where
  pub thread : t < limits.threads
  pub part : p ≤ limits.threads
  pub free : word_of w p ≡ 0

-- an Early names the front that the front word says
abbrev pub NamesFront : ℕ → Event → Type 0
NamesFront word (Put x) = Unit {0}
NamesFront word (Flush x moved) = Unit {0}
NamesFront word (Take x) = Unit {0}
NamesFront word (Early x front) = front ≡ word
NamesFront word Nothing = Unit {0}
NamesFront word (Spy victim moved) = Unit {0}
NamesFront word (Steal victim moved) = Unit {0}
NamesFront word (Refill moved) = Unit {0}
NamesFront word (Share moved) = Unit {0}

-- an event may take effect on parts that thread t holds
pub record MayTakeEffect (limits : Limits) (w : World) (t : ℕ) (event : Event) : Type 0 where
  pub thread : t < limits.threads
  pub commit : MayCommit limits.k t (hand_in w t) (length (inserted (steps_of w t))) event
  pub front : NamesFront w.front event

-- thread t may release part p, which it holds
pub record MayRelease (limits : Limits) (w : World) (t p : ℕ) : Type 0 where
  pub thread : t < limits.threads
  pub held : HoldsSome (hand_in w t) p

-- thread t may try part p in vain, which another thread holds
pub record MayMiss (limits : Limits) (w : World) (t p : ℕ) : Type 0 where
  pub thread : t < limits.threads
  pub part : p ≤ limits.threads
  pub taken : word_of w p ≢ 0
  pub by_another : word_of w p ≢ t + 1

-- thread t may load the front, whatever it holds
pub record MayLook (limits : Limits) (w : World) (t : ℕ) : Type 0 where
  pub thread : t < limits.threads

-- thread t may mark the key of the item that it works at, or that it works at none, while it holds its own part
pub record MayMark (limits : Limits) (w : World) (t key : ℕ) : Type 0 where
  pub thread : t < limits.threads
  pub held : HoldsSome (hand_in w t) (own_part t)
  pub key_is : (key ≡ work_of (steps_of w t)) ⊎ (key ≡ no_key)

-- thread t may see the key of the item that thread u works at, while it holds the own part of that thread
pub record MaySee (limits : Limits) (w : World) (t u : ℕ) : Type 0 where
  pub thread : t < limits.threads
  pub other : u < limits.threads
  pub held : HoldsSome (hand_in w t) (own_part u)

-- a step is legal in a world
abbrev pub MayStep : Limits → World → Step → Type 0
MayStep limits w (Acquire t p) = MayAcquire limits w t p
MayStep limits w (Commit t event) = MayTakeEffect limits w t event
MayStep limits w (Release t p) = MayRelease limits w t p
MayStep limits w (Miss t p) = MayMiss limits w t p
MayStep limits w (Look t) = MayLook limits w t
MayStep limits w (Mark t key) = MayMark limits w t key
MayStep limits w (See t u) = MaySee limits w t u

-- thread t's list gains an entry
abbrev pub noted : World → ℕ → Entry → List (List Entry)
noted w t entry = slice_set w.lists t (steps_of w t ++ entry ∷ [])

-- the front word after an event of thread t, which had this hand: a Flush, a Take, a Refill and a
-- Share set it to the front of what they leave in the shared part
abbrev pub front_after : ℕ → ℕ → Hand → Event → ℕ
front_after word t hand (Put x) = word
front_after word t hand (Flush x moved) =
    front_of (content_in (after_event t hand (Flush x moved)) shared_part)
front_after word t hand (Take x) =
    front_of (content_in (after_event t hand (Take x)) shared_part)
front_after word t hand (Early x front) = word
front_after word t hand Nothing = word
front_after word t hand (Spy victim moved) = word
front_after word t hand (Steal victim moved) = word
front_after word t hand (Refill moved) =
    front_of (content_in (after_event t hand (Refill moved)) shared_part)
front_after word t hand (Share moved) =
    front_of (content_in (after_event t hand (Share moved)) shared_part)

-- the world after thread t acquired part p, of which its list records this content
abbrev pub acquired : World → ℕ → ℕ → List Item → World
acquired w t p found = record {
  words = slice_set w.words p (t + 1);
  front = w.front;
  homes = slice_set w.homes p None;
  lists = noted w t (Acquired p found);
}

-- the world after a step; an acquire records the content at home, a look the front word, and who sees another's work the
-- key of that
abbrev pub next : World → Step → World
next w (Acquire t p) = acquired w t p (unwrap_or (home_of w p) [])
next w (Commit t event) = record {
  words = w.words;
  front = front_after w.front t (hand_in w t) event;
  homes = w.homes;
  lists = noted w t (Committed event);
}
next w (Release t p) = record {
  words = slice_set w.words p 0;
  front = w.front;
  homes = slice_set w.homes p (Some (content_in (hand_in w t) p));
  lists = noted w t (Released p);
}
next w (Miss t p) = record {
  words = w.words;
  front = w.front;
  homes = w.homes;
  lists = noted w t (Missed p (holder_of w p));
}
next w (Look t) = record {
  words = w.words;
  front = w.front;
  homes = w.homes;
  lists = noted w t (Looked w.front);
}
next w (Mark t key) = record {
  words = w.words;
  front = w.front;
  homes = w.homes;
  lists = noted w t (Marked key);
}
next w (See t u) = record {
  words = w.words;
  front = w.front;
  homes = w.homes;
  lists = noted w t (Saw u (work_of (steps_of w u)));
}

-- a legal step leads to this world from one of which this is true
pub record LeadsOn (limits : Limits) (Led : World → Type 0) (step : Step) (w : World) : Type 0 where
  pub before : World
  pub led : Led before
  pub legal : MayStep limits before step
  pub after : w ≡ next before step

-- a schedule, its latest step first: each step is legal in the world to which those before it lead,
-- and all lead to this one
abbrev pub Leads : Limits → List Step → World → Type 0
Leads limits [] w = w ≡ first_world limits
Leads limits (step ∷ before) w = LeadsOn limits (Leads limits before) step w
