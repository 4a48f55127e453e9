-- Answers: a feasible selection with its value.
use Rattle.std.specs.Prelude.{◌≡◌}
use Rattle.klsm_instance.specs.declared.search.Best.{Best}
use Rattle.klsm_instance.specs.Selections.{Problem, IsFeasible, IsBest, value_of}

pub record IsAnswer (p : Problem) (best : Best) : Type 0 where
  pub feasible : IsFeasible p best.picks
  pub value : best.value ≡ value_of p best.picks

-- a feasible selection with its value, and no feasible selection has a greater value
pub record IsBestAnswer (p : Problem) (best : Best) : Type 0 where
  pub value : best.value ≡ value_of p best.picks
  pub best_is : IsBest p best.picks
