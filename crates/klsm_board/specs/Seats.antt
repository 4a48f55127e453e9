-- What a member's seat has between two of its steps.
use Rattle.std.specs.Prelude.{◌≡◌, ◌≢◌, ℕ, ◌<◌, ⊤, List, [], ◌∷◌, length}
use Rattle.atomic_table.specs.Table.{Me}
use Rattle.atomic_table.specs.Seated.{TableId}
use Rattle.klsm_run.specs.declared.item.Item.{Item}
use Rattle.klsm_parts.specs.Events.{front_of}
use Rattle.klsm_schedules.specs.declared.step.Event.{Event}
use Rattle.klsm_schedules.specs.declared.step.Event.TheVariants.{Put, Flush, Take, Early, Nothing, Spy, Refill, Steal, Share}
use Rattle.klsm_schedules.specs.declared.step.Entry.{Entry}
use Rattle.klsm_schedules.specs.OwnSteps.{Hand, own_part, shared_part, content_in, hand_of, after_event, inserted, inserted_by, mark_of, work_of}
use Rattle.klsm_schedules.specs.LegalSteps.{MayCommit}
use Rattle.klsm_board.specs.declared.sizes.Sizes.{Sizes}
use Rattle.klsm_board.specs.declared.rule.View.{View}
use Rattle.klsm_board.specs.Rule.{IsSized}
use Rattle.klsm_board.specs.Steps.{mine, IsMine, AreReached}

-- hands with the own part, with the shared part too, with a victim's beside the own one, and with all three
abbrev pub own_in_hand : ℕ → List Item → Hand
own_in_hand t own = (own_part t, own) ∷ []

abbrev pub both_in_hand : ℕ → List Item → List Item → Hand
both_in_hand t own shared = (shared_part, shared) ∷ own_in_hand t own

abbrev pub victim_in_hand : ℕ → ℕ → List Item → List Item → Hand
victim_in_hand t victim from own = (own_part victim, from) ∷ own_in_hand t own

abbrev pub three_in_hand : ℕ → ℕ → List Item → List Item → List Item → Hand
three_in_hand t victim from own shared = (own_part victim, from) ∷ both_in_hand t own shared

-- the items on their way to the part that a seat acquired first
abbrev pub last_arriving_or : {S : Type 0} → (S → List Item) → List Item → List (ℕ × S) → List Item
last_arriving_or arriving before [] = before
last_arriving_or arriving before (x ∷ xs) = last_arriving_or arriving (arriving x.1) xs

abbrev pub last_arriving : {S : Type 0} → (S → List Item) → List (ℕ × S) → List Item
last_arriving arriving xs = last_arriving_or arriving [] xs

-- by its list a thread has marked the key that it works at
abbrev pub IsMarked : List Entry → Type 0
IsMarked es = mark_of es ≡ work_of es

-- an event by which nobody's work changes: no deletion, and no answer of nothing
abbrev pub LeavesWork : Event → Type 0
LeavesWork (Put x) = ⊤
LeavesWork (Flush x moved) = ⊤
LeavesWork (Take x) = ⊥
LeavesWork (Early x front) = ⊥
LeavesWork Nothing = ⊥
LeavesWork (Spy victim moved) = ⊤
LeavesWork (Steal victim moved) = ⊤
LeavesWork (Refill moved) = ⊤
LeavesWork (Share moved) = ⊤

-- the seat is one of this table, for thread t
abbrev pub IsSeatOf : TableId → TableId → Sizes → ℕ → Type 0
IsSeatOf seat table m t = (seat ≡ table) × IsSized table m × (t < m.threads)

module _ {S : Type 0} (content : S → List Item) (suits : ℕ → ℕ → S → Type 0) (m : Sizes) (t : ℕ) where
  -- the parts that a seat carries, each with its content
  abbrev pub contents : List (ℕ × S) → Hand
  contents [] = []
  contents (x ∷ xs) = (x.0, content x.1) ∷ contents xs

  -- each of them is the part of its slot
  abbrev pub AreSuited : List (ℕ × S) → Type 0
  AreSuited [] = ⊤
  AreSuited (x ∷ xs) = suits m.k x.0 x.1 × AreSuited xs

  -- the seat is thread t's, and carries these parts, the last acquired first
  pub record Carries (hand : Hand) (me : Me S View) : Type 0 where
    pub acts : IsMine me.0 t
    pub contents_are : contents me.1 ≡ hand
    pub suited : AreSuited me.1

  -- they are thread t's hand by its list, and it has marked the key that it works at
  pub record Stands (hand : Hand) (me : Me S View) : Type 0 where
    pub carries : Carries hand me
    pub hand_is : hand_of t (mine me.0) ≡ hand
    pub marked : IsMarked (mine me.0)

  -- and the lists that it knows are those of their threads in some world to which a schedule leads
  pub record Has (hand : Hand) (me : Me S View) : Type 0 where
    pub carries : Carries hand me
    pub hand_is : hand_of t (mine me.0) ≡ hand
    pub marked : IsMarked (mine me.0)
    pub reached : AreReached m t me.0

  -- thread t may commit the event, and has carried it out in the parts
  pub record CarriedOut (event : Event) (hand : Hand) (me : Me S View) : Type 0 where
    pub carries : Carries hand me
    pub may : MayCommit m.k t (hand_of t (mine me.0)) (length (inserted (mine me.0))) event
    pub done : after_event t (hand_of t (mine me.0)) event ≡ hand
    pub marked : IsMarked (mine me.0)

module _ {S : Type 0} (content : S → List Item) (suits : ℕ → ℕ → S → Type 0) (is_vacant : S → Type 0) (m : Sizes) (t : ℕ) where
  -- the seat carries thread t's own part, and a vacant slot in place of the shared one
  pub record LendsShared (own : List Item) (me : Me S View) : Type 0 where
    pub acts : IsMine me.0 t
    pub slot : S
    pub vacant : S
    pub slots_are : me.1 ≡ (own_part t, slot) ∷ (shared_part, vacant) ∷ []
    pub content_is : content slot ≡ own
    pub suits_there : suits m.k (own_part t) slot
    pub vacant_is : is_vacant vacant

-- an event that a release commits: it leaves the shared part as it is, and so the front, and names no
-- front. A Take does where its item is an own one
abbrev pub LeavesShared : ℕ → Hand → Event → Type 0
LeavesShared t hand (Put x) = ⊤
LeavesShared t hand (Flush x moved) = ⊥
LeavesShared t hand (Take x) =
    content_in (after_event t hand (Take x)) shared_part ≡ content_in hand shared_part
LeavesShared t hand (Early x front) = ⊥
LeavesShared t hand Nothing = ⊤
LeavesShared t hand (Spy victim moved) = ⊤
LeavesShared t hand (Steal victim moved) = ⊤
LeavesShared t hand (Refill moved) = ⊥
LeavesShared t hand (Share moved) = ⊥

-- an event that a store of the front commits, and the front that it leaves: a Flush, a Refill, a Share, and a
-- Take of a shared item
abbrev pub SetsFront : ℕ → Hand → Event → ℕ → Type 0
SetsFront t hand (Put x) front = ⊥
SetsFront t hand (Flush x moved) front =
    front ≡ front_of (content_in (after_event t hand (Flush x moved)) shared_part)
SetsFront t hand (Take x) front =
    (content_in (after_event t hand (Take x)) shared_part ≢ content_in hand shared_part)
    × (front ≡ front_of (content_in (after_event t hand (Take x)) shared_part))
SetsFront t hand (Early x least) front = ⊥
SetsFront t hand Nothing front = ⊥
SetsFront t hand (Spy victim moved) front = ⊥
SetsFront t hand (Steal victim moved) front = ⊥
SetsFront t hand (Refill moved) front =
    front ≡ front_of (content_in (after_event t hand (Refill moved)) shared_part)
SetsFront t hand (Share moved) front =
    front ≡ front_of (content_in (after_event t hand (Share moved)) shared_part)

-- where an event inserts an item, the quota has room for it
abbrev pub QuotaAllows : ℕ → List Entry → Event → Type 0
QuotaAllows quota es event = 0 < length (inserted_by event) → length (inserted es) < quota
