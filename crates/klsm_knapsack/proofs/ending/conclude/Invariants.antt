use Rattle.std.proofs.Common.{◌≤◌}
use Rattle.klsm_instance.specs.Answers.{IsAnswer}
use Rattle.klsm_knapsack.specs.Numbers.{value_in}
use Rattle.klsm_knapsack.specs.Workers.{AreFinished}
use Rattle.klsm_knapsack.proofs.ending.conclude.Given as goal

abbrev pub invariant-loop-item : goal.invariant-loop-item
invariant-loop-item l = record {
  answer : IsAnswer l.instance l.best;
  kept : value_in l.number ≤ l.best.value;
  finished : AreFinished l.instance l.left l.item-index l.best.value;
}
