-- A thread's own steps, and the hand that they leave: the parts that the thread holds, each with
-- its content. A content is given by its ascending list. Part 0 is the shared one, and part t + 1
-- is thread t's own.
use Rattle.std.specs.Prelude.{ℕ, ◌≡◌, ◌+◌, ◌==◌, if◌then◌else◌, List, [], ◌∷◌, Option, Some, None, unwrap_or}
use Rattle.std.specs.List.{fold, flat_map}
use Rattle.klsm_run.specs.declared.item.Item.{Item}
use Rattle.klsm_parts.specs.Events.{own_after_put, own_after_flush, shared_after_flush, own_after_take, shared_after_take, own_after_early, own_after_spy, victim_after_spy, own_after_refill, shared_after_refill}
use Rattle.klsm_parts.specs.Stealing.{own_after_steal, victim_after_steal}
use Rattle.klsm_parts.specs.Sharing.{own_after_share, shared_after_share}
use Rattle.klsm_schedules.specs.declared.step.Event.{Event}
use Rattle.klsm_schedules.specs.declared.step.Event.TheVariants.{Put, Flush, Take, Early, Nothing, Spy, Refill, Steal, Share}
use Rattle.klsm_schedules.specs.declared.step.Entry.{Entry}
use Rattle.klsm_schedules.specs.declared.step.Entry.TheVariants.{Acquired, Committed, Released, Missed, Looked, Marked, Saw}

-- a hand: the parts held with their contents, the last acquired first
abbrev pub Hand : Type 0
Hand = List (ℕ × List Item)

abbrev pub shared_part : ℕ
shared_part = 0

abbrev pub own_part : ℕ → ℕ
own_part t = t + 1

-- the content of a part in a hand, where it is there
abbrev pub found_in : Hand → ℕ → Option (List Item)
found_in [] p = None
found_in (held ∷ hand) p = if held.0 == p then Some held.1 else found_in hand p

-- a hand holds a part with this content
abbrev pub Holds : Hand → ℕ → List Item → Type 0
Holds hand p c = found_in hand p ≡ Some c

-- a hand holds a part
pub record HoldsSome (hand : Hand) (p : ℕ) : Type 0 where
  pub content : List Item
  pub holds : Holds hand p content

-- the content of a part in a hand, and none where it is not there
abbrev pub content_in : Hand → ℕ → List Item
content_in hand p = unwrap_or (found_in hand p) []

-- a hand in which a part that it holds has another content
abbrev pub changed : Hand → ℕ → List Item → Hand
changed [] p c = []
changed (held ∷ hand) p c = if held.0 == p then (p, c) ∷ hand else held ∷ changed hand p c

-- a hand without a part
abbrev pub without_part : Hand → ℕ → Hand
without_part [] p = []
without_part (held ∷ hand) p = if held.0 == p then without_part hand p else held ∷ without_part hand p

-- thread t's hand after an event
abbrev pub after_event : ℕ → Hand → Event → Hand
after_event t hand (Put x) =
    changed hand (own_part t) (own_after_put (content_in hand (own_part t)) x)
after_event t hand (Flush x moved) =
    changed
    (changed hand (own_part t) (own_after_flush (content_in hand (own_part t)) x moved))
    shared_part (shared_after_flush (content_in hand shared_part) moved)
after_event t hand (Take x) =
    changed
    (changed hand (own_part t) (own_after_take (content_in hand (own_part t)) x))
    shared_part (shared_after_take (content_in hand (own_part t)) (content_in hand shared_part) x)
after_event t hand (Early x front) =
    changed hand (own_part t) (own_after_early (content_in hand (own_part t)) x)
after_event t hand Nothing = hand
after_event t hand (Spy victim moved) =
    changed
    (changed hand (own_part t) (own_after_spy moved))
    (own_part victim) (victim_after_spy (content_in hand (own_part victim)) moved)
after_event t hand (Refill moved) =
    changed
    (changed hand (own_part t) (own_after_refill (content_in hand (own_part t)) moved))
    shared_part (shared_after_refill (content_in hand shared_part) moved)
after_event t hand (Steal victim moved) =
    changed
    (changed hand (own_part t) (own_after_steal (content_in hand (own_part t)) moved))
    (own_part victim) (victim_after_steal (content_in hand (own_part victim)) moved)
after_event t hand (Share moved) =
    changed
    (changed hand (own_part t) (own_after_share (content_in hand (own_part t)) moved))
    shared_part (shared_after_share (content_in hand shared_part) moved)

-- thread t's hand after one more of its own steps
abbrev pub after_entry : ℕ → Hand → Entry → Hand
after_entry t hand (Acquired p found) = (p, found) ∷ hand
after_entry t hand (Committed event) = after_event t hand event
after_entry t hand (Released p) = without_part hand p
after_entry t hand (Missed p by) = hand
after_entry t hand (Looked front) = hand
after_entry t hand (Marked key) = hand
after_entry t hand (Saw u key) = hand

-- thread t's hand, which is empty at first, after all its own steps
abbrev pub hand_of : ℕ → List Entry → Hand
hand_of t own = fold (after_entry t) [] own

-- the item that an event inserts, and the one that it deletes
abbrev pub inserted_by : Event → List Item
inserted_by (Put x) = x ∷ []
inserted_by (Flush x moved) = x ∷ []
inserted_by (Take x) = []
inserted_by (Early x front) = []
inserted_by Nothing = []
inserted_by (Spy victim moved) = []
inserted_by (Refill moved) = []
inserted_by (Steal victim moved) = []
inserted_by (Share moved) = []

abbrev pub deleted_by : Event → List Item
deleted_by (Put x) = []
deleted_by (Flush x moved) = []
deleted_by (Take x) = x ∷ []
deleted_by (Early x front) = x ∷ []
deleted_by Nothing = []
deleted_by (Spy victim moved) = []
deleted_by (Refill moved) = []
deleted_by (Steal victim moved) = []
deleted_by (Share moved) = []

-- the event that an entry commits
abbrev pub event_at : Entry → List Event
event_at (Acquired p found) = []
event_at (Committed event) = event ∷ []
event_at (Released p) = []
event_at (Missed p by) = []
event_at (Looked front) = []
event_at (Marked key) = []
event_at (Saw u key) = []

-- the items that a thread inserted, and those that it deleted, in order
abbrev pub inserted : List Entry → List Item
inserted own = flat_map inserted_by (flat_map event_at own)

abbrev pub deleted : List Entry → List Item
deleted own = flat_map deleted_by (flat_map event_at own)

-- the key of no item: the greatest number, which is also the front of nothing
abbrev pub no_key : ℕ
no_key = 18446744073709551615

-- the key of the item that a thread works at after an event: that of an item which it deletes, and none where it is
-- answered nothing
abbrev pub work_at : ℕ → Event → ℕ
work_at work (Put x) = work
work_at work (Flush x moved) = work
work_at work (Take x) = x.key
work_at work (Early x front) = x.key
work_at work Nothing = no_key
work_at work (Spy victim moved) = work
work_at work (Refill moved) = work
work_at work (Steal victim moved) = work
work_at work (Share moved) = work

-- and after one more of its own steps; a mark says which key counts from there on
abbrev pub work_after : ℕ → Entry → ℕ
work_after work (Acquired p found) = work
work_after work (Committed event) = work_at work event
work_after work (Released p) = work
work_after work (Missed p by) = work
work_after work (Looked front) = work
work_after work (Marked key) = key
work_after work (Saw u key) = work

-- the key of the item that a thread works at, by its own steps: that of the one which it deleted last, until it is
-- answered nothing or marks the greatest number
abbrev pub work_of : List Entry → ℕ
work_of own = fold work_after no_key own

-- the key that a thread marked last, which others can see
abbrev pub mark_after : ℕ → Entry → ℕ
mark_after mark (Acquired p found) = mark
mark_after mark (Committed event) = mark
mark_after mark (Released p) = mark
mark_after mark (Missed p by) = mark
mark_after mark (Looked front) = mark
mark_after mark (Marked key) = key
mark_after mark (Saw u key) = mark

abbrev pub mark_of : List Entry → ℕ
mark_of own = fold mark_after no_key own

-- what a thread saw of others' work while it has their parts in hand: the threads with their keys, that seen last first. A
-- step by which it commits, releases or marks something ends that
abbrev pub seen_after : List (ℕ × ℕ) → Entry → List (ℕ × ℕ)
seen_after seen (Acquired p found) = seen
seen_after seen (Committed event) = []
seen_after seen (Released p) = []
seen_after seen (Missed p by) = seen
seen_after seen (Looked front) = seen
seen_after seen (Marked key) = []
seen_after seen (Saw u key) = (u, key) ∷ seen

abbrev pub seen_of : List Entry → List (ℕ × ℕ)
seen_of own = fold seen_after [] own
