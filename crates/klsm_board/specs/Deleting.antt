-- What a deletion adds to its member's list.
use Rattle.std.specs.Prelude.{◌≡◌, ℕ, zero, suc, ◌+◌, ◌-◌, ◌<◌, ◌≤◌, ◌⊎◌, ◌==◌, if◌then◌else◌, ltb, List, [], ◌∷◌, ◌++◌, Option, Some, None, MatchOption, IsSomeAnd}
use Rattle.klsm_run.specs.declared.item.Item.{Item}
use Rattle.klsm_parts.specs.Least.{IsLeast}
use Rattle.klsm_parts.specs.Events.{times, MayTake, MayTakeEarly, MaySpy, own_after_take, shared_after_take}
use Rattle.klsm_parts.specs.Refilling.{refill_of}
use Rattle.klsm_schedules.specs.declared.step.Event.TheVariants.{Take, Early, Nothing, Spy, Refill}
use Rattle.klsm_schedules.specs.declared.step.Entry.{Entry}
use Rattle.klsm_schedules.specs.declared.step.Entry.TheVariants.{Acquired, Committed, Released, Missed}
use Rattle.klsm_schedules.specs.OwnSteps.{no_key, own_part}
use Rattle.klsm_schedules.specs.OwnListLaws.{SkipsFew, SkipsFewBy, KeepsOwnOrder, KeepsOwnOrderBy, LeavesFew}
use Rattle.klsm_board.specs.declared.sizes.Sizes.{Sizes}
use Rattle.klsm_board.specs.Rule.{world_limits}
use Rattle.klsm_board.specs.Entries.{own_acquired, own_marked, both_marked, both_looked}
use Rattle.klsm_board.specs.declared.errors.Busy.{Busy}
use Rattle.klsm_board.specs.Inserting.{Misses, Waits}
use Rattle.klsm_board.specs.Choosing.{Chooses}

-- the member n places behind thread t, in the round of all
abbrev pub victim_of : ℕ → ℕ → ℕ → ℕ
victim_of threads t n = if ltb (t + n) threads then t + n else (t + n) - threads

-- a victim was passed by: its lock was not free, or its part was empty and released
abbrev pub PassesBy : ℕ → List Entry → Type 0
PassesBy victim added =
    ((by : ℕ) × (added ≡ Missed (own_part victim) by ∷ []))
    ⊎ (added ≡ Acquired (own_part victim) [] ∷ Released (own_part victim) ∷ [])

-- the first n victims of thread t were passed by, one after another
abbrev pub Passes : ℕ → ℕ → ℕ → List Entry → Type 0
Passes threads t zero added = added ≡ []
Passes threads t (suc n) added = (before : List Entry) × (one : List Entry)
    × Passes threads t n before × PassesBy (victim_of threads t (suc n)) one × (added ≡ before ++ one)

-- items moved from a victim's part to the own one, which was empty
pub record Spies (victim : ℕ) (es es' : List Entry) (moved : List Item) : Type 0 where
  pub found : List Item
  pub may : MaySpy [] found moved
  pub steps : es' ≡ es ++ Acquired (own_part victim) found ∷ Committed (Spy victim moved) ∷ Released (own_part victim) ∷ []

-- some victims were passed by, and items moved from the next one's part
pub record SpiesAfter (threads t : ℕ) (es es' : List Entry) (moved : List Item) : Type 0 where
  pub passed : ℕ
  pub some_left : passed < threads - 1
  pub added : List Entry
  pub passes : Passes threads t passed added
  pub spies : Spies (victim_of threads t (suc passed)) (es ++ added) es' moved

-- what the moving of some items adds to a list, and of none nothing
abbrev pub refilled : List Item → List Entry
refilled [] = []
refilled (x ∷ moved) = Committed (Refill (x ∷ moved)) ∷ []

-- what a list has behind a Take of x: where x was a shared item, the least of those left there move to
-- the own part, `most` at most
abbrev pub refilled_after : ℕ → ℕ → List Item → List Item → Item → List Entry
refilled_after most k own shared x =
    if times x own == 0
    then refilled (refill_of most k (own_after_take own x) (shared_after_take own shared x))
    else []

-- From the list `acquired`, with both parts in hand: the item was taken out of one of them. It skips at
-- most T·k items, and none of the two parts that the thread inserted. Where it was a shared one, the
-- own part is filled again, with no more items than the board says. The thread then works at the item's key.
pub record TakesOut (m : Sizes) (t : ℕ) (own shared : List Item) (acquired es' : List Entry) (x : Item) : Type 0 where
  pub may : MayTake m.k t own shared x
  pub skips : SkipsFew (world_limits m) t acquired x
  pub keeps : KeepsOwnOrder (world_limits m) t acquired x
  pub steps : es' ≡ acquired ++ Committed (Take x) ∷ (refilled_after m.refill m.k own shared x ++ both_marked t x.key)

-- From the list `acquired`, with the own part in hand: the least own item was deleted, as its key is
-- below the front that was read. In the worlds of that front it skips at most (T-1)·k items, and none
-- of the two parts that the thread inserted.
pub record TakesEarly (m : Sizes) (t : ℕ) (own : List Item) (acquired es' : List Entry) (x : Item) : Type 0 where
  pub front : ℕ
  pub may : MayTakeEarly own x front
  pub skips : SkipsFewBy front (world_limits m) t acquired x
  pub keeps : KeepsOwnOrderBy front (world_limits m) t acquired x
  pub steps : es' ≡ acquired ++ Committed (Early x front) ∷ own_marked t x.key

-- With the own part in hand a deletion did not go by the front: it looked at none, as the part was empty, or the
-- front that it loaded was not above the least key there.
abbrev pub LooksInVain : List Item → Option ℕ → Type 0
LooksInVain own None = own ≡ []
LooksInVain own (Some front) = (x : Item) × IsLeast x own × (front ≤ x.key)

-- Both parts were found empty. Some victims were passed by, items moved from the next one's part,
-- and the least of them was taken. It skips at most T·k items, and none of the two parts that the
-- thread inserted.
pub record TakesSpied (m : Sizes) (t : ℕ) (own shared : List Item) (acquired es' : List Entry) (x : Item) : Type 0 where
  pub own_empty : own ≡ []
  pub shared_empty : shared ≡ []
  pub moved : List Item
  pub least : IsLeast x moved
  pub spied : List Entry
  pub spies : SpiesAfter m.threads t acquired spied moved
  pub skips : SkipsFew (world_limits m) t spied x
  pub keeps : KeepsOwnOrder (world_limits m) t spied x
  pub steps : es' ≡ spied ++ Committed (Take x) ∷ both_marked t x.key

-- Both parts were found empty, and all victims were passed by. At most (T-1)·k items live. The thread then works at
-- no item.
pub record FindsNothing (m : Sizes) (t : ℕ) (own shared : List Item) (acquired es' : List Entry) : Type 0 where
  pub own_empty : own ≡ []
  pub shared_empty : shared ≡ []
  pub added : List Entry
  pub passes : Passes m.threads t (m.threads - 1) added
  pub leaves : LeavesFew (world_limits m) t (acquired ++ added)
  pub steps : es' ≡ (acquired ++ added) ++ Committed Nothing ∷ both_marked t no_key

-- The item x was deleted by a member that found these contents, and the picker went from `before`
-- to `after`.
abbrev pub Deletes : {P : Type 0} → (P → ℕ → ℕ → P → Type 0) → P → P → Sizes → ℕ → List Item → List Item → List Entry → List Entry → Item → Type 0
Deletes may_pick before after m t own shared acquired es' x =
    (TakesOut m t own shared acquired es' x × Chooses may_pick before after m.k t own shared x)
    ⊎ (TakesSpied m t own shared acquired es' x × (after ≡ before))

-- these sizes, but for how many items a deletion moves at most
abbrev pub moving_at_most : ℕ → Sizes → Sizes
moving_at_most refill m = record { threads = m.threads; k = m.k; quota = m.quota; refill = refill }

-- A deletion answered. It deleted the least own item by the front, with the own part in hand alone, and
-- did not ask the picker. Or it looked there in vain, and acquired both parts.
abbrev pub AnswersDeletion : {P : Type 0} → (P → ℕ → ℕ → P → Type 0) → P → P → Sizes → ℕ → List Entry → List Entry → Option Item → Type 0
AnswersDeletion may_pick before after m t es es' answer = (own : List Item)
    × ((IsSomeAnd answer (λ x. TakesEarly m t own (own_acquired t own es) es' x)
    × (after ≡ before))
    ⊎ ((shared : List Item) × (look : Option ℕ) × LooksInVain own look × MatchOption answer
    (FindsNothing m t own shared (both_looked t own look shared es) es' × (after ≡ before))
    (Deletes may_pick before after m t own shared (both_looked t own look shared es) es')))

-- A lock was not free: the own one, or the shared one, which was tried after a look at the front in vain,
-- and then the own part was released.
abbrev pub MissesDeletion : ℕ → List Entry → List Entry → Busy → Type 0
MissesDeletion t es es' busy = Misses t LooksInVain es es' busy

-- A deletion that may wait: some tries are refused for a lock, and the next one is not.
abbrev pub AnswersWaiting : {P : Type 0} → (P → ℕ → ℕ → P → Type 0) → P → P → Sizes → ℕ → List Entry → List Entry → Option Item → Type 0
AnswersWaiting may_pick before after m t es es' answer = (now : List Entry)
    × Waits t LooksInVain es now × AnswersDeletion may_pick before after m t now es' answer
