-- Nodes as items of the queue, what a worker does with them, and that no selection is missed.
use Rattle.std.specs.Prelude.{ℕ, ◌≡◌, ◌+◌, ◌^◌, ◌<◌, ◌≤◌, ◌⊎◌, List, length}
use Rattle.std.specs.List.{AllByRecursion, Contains, flat_map}
use Rattle.klsm_run.specs.declared.item.Item.{Item}
use Rattle.klsm_instance.specs.Selections.{Problem, value_of, weight_of, IsFeasible}
use Rattle.klsm_instance.specs.Nodes.{IsNode, NoneAbove, IsBound, level_in, picks_in}
use Rattle.klsm_knapsack.specs.Numbers.{value_in}

-- the load stands for a node, and the key is 32,000,000 less its bound
pub record IsNodeItem (p : Problem) (x : Item) : Type 0 where
  pub node : IsNode p (level_in x.load) (picks_in x.load)
  pub key : (bound : ℕ) × IsBound p (level_in x.load) (picks_in x.load) bound
      × (x.key + bound ≡ 32000000)

-- an item of this node is among the items
abbrev pub HasNode : List Item → ℕ → ℕ → Type 0
HasNode items level picks = (x : Item) × Contains items x × (level_in x.load ≡ level)
    × (picks_in x.load ≡ picks)

-- both children of a node are among the items: the one that leaves the next thing and, where that
-- fits, the one that takes it
pub record IsSplit (p : Problem) (items : List Item) (level picks : ℕ) : Type 0 where
  pub one_more : level < length p.things
  pub leaves : HasNode items (level + 1) picks
  pub takes : weight_of p (picks + 2 ^ level) ≤ p.capacity
      → HasNode items (level + 1) (picks + 2 ^ level)

-- what one worker inserted and deleted, and the greatest number of the incumbent that it found
pub record Work : Type 0 where
  pub inserted : List Item
  pub deleted : List Item
  pub found : ℕ

-- a node that a worker deleted is done with: it is closed, since no completion is above the number
-- found, or it is split
abbrev pub IsDone : Problem → Work → Item → Type 0
IsDone p w x = NoneAbove p (level_in x.load) (picks_in x.load) (value_in w.found)
    ⊎ IsSplit p w.inserted (level_in x.load) (picks_in x.load)

-- Nothing was inserted where the bound of the node that a load stands for is no more than what was
-- found.
abbrev pub ClosesBounded : Problem → ℕ → Work → Work → Type 0
ClosesBounded p load before after = (bound : ℕ)
    × IsBound p (level_in load) (picks_in load) bound
    × (bound ≤ value_in after.found → after.inserted ≡ before.inserted)

-- A worker inserts nodes, and is done with each node that it deleted. It cannot know of an item
-- deleted that this is a node; all workers together can.
pub record HasWorked (p : Problem) (w : Work) : Type 0 where
  pub inserts_nodes : (x : Item) → Contains w.inserted x → IsNodeItem p x
  pub is_done : (x : Item) → Contains w.deleted x → IsNodeItem p x → IsDone p w x

-- what all workers inserted, and what they deleted
abbrev pub all_inserted : List Work → List Item
all_inserted works = flat_map (λ w. w.inserted) works

abbrev pub all_deleted : List Work → List Item
all_deleted works = flat_map (λ w. w.deleted) works

-- What all workers together have done, with the items left in the queue, and a value that no number
-- found is above.
pub record IsWorkedOff (p : Problem) (works : List Work) (left : List Item) (value : ℕ)
    : Type 0 where
  -- the root is among the items inserted
  pub root : HasNode (all_inserted works) 0 0
  -- what was inserted was deleted or is left
  pub none_lost : (x : Item) → Contains (all_inserted works) x
      → Contains (all_deleted works) x ⊎ Contains left x
  pub have_worked : AllByRecursion (HasWorked p) works
  pub found : AllByRecursion (λ w. value_in w.found ≤ value) works
  -- the nodes that are left are finished afterwards
  pub finished : (x : Item) → Contains left x → IsNodeItem p x
      → NoneAbove p (level_in x.load) (picks_in x.load) value

-- no feasible selection is above that value
abbrev pub NothingIsMissed : Type 0
NothingIsMissed = (p : Problem) (works : List Work) (left : List Item) (value : ℕ)
    → IsWorkedOff p works left value
    → (s : ℕ) → IsFeasible p s → value_of p s ≤ value
