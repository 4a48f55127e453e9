-- Nodes of the search, their completions, and their bounds.
use Rattle.std.specs.Prelude.{ℕ, ◌≡◌, ◌+◌, ◌-◌, ◌*◌, ◌/◌, ◌%◌, ◌^◌, ◌<◌, ◌≤◌, min}
use Rattle.std.specs.Prelude.{List, [], length, drop, sum_by}
use Rattle.std.specs.List.{AllByRecursion, Contains}
use Rattle.klsm_instance.specs.declared.thing.Thing.{Thing}
use Rattle.klsm_instance.specs.declared.node.Node.{Node}
use Rattle.klsm_instance.specs.Selections.{Problem, IsFeasible, value_of, weight_of}

-- A node fixes the choices of the first `level` things: it takes those in `picks`.
pub record IsNode (p : Problem) (level picks : ℕ) : Type 0 where
  pub of_things : level ≤ length p.things
  pub of_level : picks < 2 ^ level
  pub fits : weight_of p picks ≤ p.capacity

-- a feasible selection that agrees with the node's choices
pub record IsCompletion (p : Problem) (level picks s : ℕ) : Type 0 where
  pub feasible : IsFeasible p s
  pub agrees : s % 2 ^ level ≡ picks

-- no completion of the node has a greater value
abbrev pub NoneAbove : Problem → ℕ → ℕ → ℕ → Type 0
NoneAbove p level picks n = (s : ℕ) → IsCompletion p level picks s → value_of p s ≤ n

-- y is among the things, and none has a greater value by weight
pub record IsSteepest (xs : List Thing) (y : Thing) : Type 0 where
  pub among : Contains xs y
  pub greatest : AllByRecursion (λ x. x.value * y.weight ≤ y.value * x.weight) xs

-- what the other things can add where `left` of the capacity is left: the lesser of their sum and
-- what the steepest would give if it filled all of it
abbrev pub IsGain : List Thing → ℕ → ℕ → Type 0
IsGain [] left n = n ≡ 0
IsGain xs left n = (y : Thing) × IsSteepest xs y
    × (n ≡ min (sum_by (λ x. x.value) xs) (left * y.value / y.weight))

-- the bound of a node
abbrev pub IsBound : Problem → ℕ → ℕ → ℕ → Type 0
IsBound p level picks n = (gain : ℕ)
    × IsGain (drop level p.things) (p.capacity - weight_of p picks) gain
    × (n ≡ value_of p picks + gain)

-- the running node is a node of the problem, with the value and the weight of what it takes
pub record IsNodeOf (p : Problem) (node : Node) : Type 0 where
  pub is_node : IsNode p node.level node.picks
  pub value : node.taken.value ≡ value_of p node.picks
  pub weight : node.taken.weight ≡ weight_of p node.picks

-- the node that a load stands for
abbrev pub level_in : ℕ → ℕ
level_in load = load / 2 ^ 32

abbrev pub picks_in : ℕ → ℕ
picks_in load = load % 2 ^ 32
