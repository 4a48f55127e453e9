-- Selections of the things of a problem. A selection is a number: thing i is in it where bit i is
-- set.
use Rattle.std.specs.Prelude.{ℕ, ◌+◌, ◌/◌, ◌%◌, ◌^◌, ◌<◌, ◌≤◌, ◌==◌, if◌then◌else◌}
use Rattle.std.specs.Prelude.{List, [], ◌∷◌, length}
use Rattle.klsm_instance.specs.declared.thing.Thing.{Thing}

pub record Problem : Type 0 where
  pub capacity : ℕ
  pub things : List Thing

-- the sum of what f gives for the things selected
abbrev pub sum_selected : (Thing → ℕ) → List Thing → ℕ → ℕ
sum_selected f [] s = 0
sum_selected f (x ∷ xs) s = (if s % 2 == 1 then f x else 0) + sum_selected f xs (s / 2)

abbrev pub value_of : Problem → ℕ → ℕ
value_of p s = sum_selected (λ x. x.value) p.things s

abbrev pub weight_of : Problem → ℕ → ℕ
weight_of p s = sum_selected (λ x. x.weight) p.things s

-- a set of the things, of a weight that fits
pub record IsFeasible (p : Problem) (s : ℕ) : Type 0 where
  pub of_things : s < 2 ^ length p.things
  pub fits : weight_of p s ≤ p.capacity

-- feasible, and no feasible selection has a greater value
pub record IsBest (p : Problem) (s : ℕ) : Type 0 where
  pub feasible : IsFeasible p s
  pub greatest : (t : ℕ) → IsFeasible p t → value_of p t ≤ value_of p s
