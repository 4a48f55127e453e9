-- The numbers of the incumbent: a value times 2^32, and a selection.
use Rattle.std.specs.Prelude.{ℕ, ◌≡◌, ◌/◌, ◌%◌, ◌^◌}
use Rattle.klsm_instance.specs.Selections.{Problem, IsFeasible, value_of}

abbrev pub value_in : ℕ → ℕ
value_in n = n / 2 ^ 32

abbrev pub selection_in : ℕ → ℕ
selection_in n = n % 2 ^ 32

-- a feasible selection with its value
pub record IsIncumbent (p : Problem) (n : ℕ) : Type 0 where
  pub feasible : IsFeasible p (selection_in n)
  pub value : value_in n ≡ value_of p (selection_in n)
