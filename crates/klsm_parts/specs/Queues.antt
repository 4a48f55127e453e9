-- The queue for one thread: an own part beside a shared one, which nobody else uses.
use Rattle.std.specs.Prelude.{ℕ, ◌≡◌, ◌+◌, ◌-◌, ◌<◌, ◌≤◌, ◌^◌, ◌⊎◌, List, [], ◌∷◌, ◌++◌, length, slice_get, Option}
use Rattle.std.specs.List.{All}
use Rattle.klsm_run.specs.declared.item.Item.{Item}
use Rattle.klsm_run.specs.Capacity.{IsCapacity, heap_room}
use Rattle.klsm_run.specs.Content.{sorted, ShareNone}
use Rattle.klsm_lsm.specs.Lsm.{content}
use Rattle.klsm_lsm.specs.Limit.{IsLevelCount, limit_of}
use Rattle.klsm_lsm.specs.Adding.{add}
use Rattle.klsm_parts.specs.Parts.{PartState, items_in}
use Rattle.klsm_parts.specs.Flushing.{moved, kept}

-- the two parts, and how many items were inserted
pub record QueueState : Type 0 where
  pub own : PartState
  pub shared : PartState
  pub inserted : ℕ

-- the items of both parts, in ascending order
abbrev pub items_of : QueueState → List Item
items_of queue = sorted (items_in queue.own ++ items_in queue.shared)

-- the least item, where there is one
abbrev pub least_of : QueueState → Option Item
least_of queue = slice_get (items_of queue) 0

-- an item of a queue: its owner is 0, and its number was given out among the first n
pub record IsNumbered (n : ℕ) (x : Item) : Type 0 where
  pub owner : x.stamp.owner ≡ 0
  pub number : x.stamp.number < n

-- the parts have one k and share no item, and the number of each item was given out before
pub record IsQueue (capacity levels : ℕ) (queue : QueueState) : Type 0 where
  pub same_k : queue.own.k ≡ queue.shared.k
  pub apart : ShareNone (content queue.own.blocks) (content queue.shared.blocks)
  pub own_numbered : All (IsNumbered queue.inserted) (content queue.own.blocks)
  pub shared_numbered : All (IsNumbered queue.inserted) (content queue.shared.blocks)
  pub k_in_range : queue.own.k ≤ capacity
  pub capacity_in_range : IsCapacity capacity
  pub levels_in_range : IsLevelCount levels

-- the item that an insertion makes
abbrev pub next_item : QueueState → ℕ → ℕ → Item
next_item queue key load = record { key = key; stamp = record { owner = 0; number = queue.inserted }; load = load }

-- an item is put into the own one of two parts, which has room
abbrev pub IsPut : Item → PartState → PartState → PartState → PartState → Type 0
IsPut x own own_after shared shared_after =
    (length (content own.blocks) < own.k)
    × (own_after ≡ record { k = own.k; blocks = add own.blocks (x ∷ []) })
    × (shared_after ≡ shared)

-- an item is flushed, as the own part has no room
abbrev pub IsFlushed : Item → PartState → PartState → PartState → PartState → Type 0
IsFlushed x own own_after shared shared_after =
    (length (content own.blocks) ≡ own.k)
    × (own_after ≡ record { k = own.k; blocks = kept own.blocks x })
    × (shared_after ≡ record { k = shared.k; blocks = add shared.blocks (moved own.blocks x) })

-- an item joins two parts
abbrev pub Joins : Item → PartState → PartState → PartState → PartState → Type 0
Joins x own own_after shared shared_after = IsPut x own own_after shared shared_after ⊎ IsFlushed x own own_after shared shared_after

-- two parts have no place for an item: the own one is full, and the shared one has no room for what would move
abbrev pub HaveNoPlace : ℕ → Item → PartState → PartState → Type 0
HaveNoPlace levels x own shared =
    (length (content own.blocks) ≡ own.k) × (limit_of levels heap_room < length (content shared.blocks) + length (moved own.blocks x))

-- a queue is full: all numbers were given out, or its parts have no place for the next item
abbrev pub IsFull : ℕ → Item → QueueState → Type 0
IsFull levels x queue = (queue.inserted ≡ 2 ^ 64 - 1) ⊎ HaveNoPlace levels x queue.own queue.shared
