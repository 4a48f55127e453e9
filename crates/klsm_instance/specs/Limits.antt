-- The limits of a problem.
use Rattle.std.specs.Prelude.{◌≤◌, length}
use Rattle.std.specs.List.{AllByRecursion}
use Rattle.klsm_instance.specs.declared.thing.Thing.{Thing}
use Rattle.klsm_instance.specs.Selections.{Problem}

pub record IsThing (x : Thing) : Type 0 where
  pub some_value : 1 ≤ x.value
  pub value_small : x.value ≤ 1000000
  pub some_weight : 1 ≤ x.weight
  pub weight_small : x.weight ≤ 1000000000

pub record IsInRange (p : Problem) : Type 0 where
  pub few : length p.things ≤ 32
  pub capacity_small : p.capacity ≤ 1000000000
  pub things_are : AllByRecursion IsThing p.things
