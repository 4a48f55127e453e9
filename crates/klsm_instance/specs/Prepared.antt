-- How an instance keeps its tails. No public contract speaks of it.
use Rattle.std.specs.Prelude.{ℕ, ◌≡◌, ◌+◌, ◌-◌, List, [], length, drop, sum_by}
use Rattle.std.specs.Prelude.{MatchOption, Option, Some, slice_get}
use Rattle.klsm_instance.specs.declared.thing.Thing.{Thing}
use Rattle.klsm_instance.specs.declared.tail.Tail.{Tail}
use Rattle.klsm_instance.specs.Limits.{IsInRange}
use Rattle.klsm_instance.specs.Nodes.{IsSteepest}

-- the steepest of the things, or none where there is no thing
abbrev pub IsSteepestOf : List Thing → Option Thing → Type 0
IsSteepestOf xs y = MatchOption y (xs ≡ []) (IsSteepest xs)

pub record IsTail (xs : List Thing) (tail : Tail) : Type 0 where
  pub value : tail.value ≡ sum_by (λ x. x.value) xs
  pub steepest : IsSteepestOf xs tail.steepest

-- the n-th is the tail of the last n things
abbrev pub AreTails : List Thing → List Tail → Type 0
AreTails things tails = (n : ℕ) (tail : Tail) → slice_get tails n ≡ Some tail
    → IsTail (drop (length things - n) things) tail

pub record IsPrepared (capacity : ℕ) (things : List Thing) (tails : List Tail) : Type 0 where
  pub in_range : IsInRange (record { capacity = capacity; things = things })
  pub as_many : length tails ≡ length things + 1
  pub tails_are : AreTails things tails
