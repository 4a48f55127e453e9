use Rattle.std.proofs.Common.{◌≡◌, ◌≤◌, ◌++◌}
use Rattle.klsm_pile.proofs.SpillLemmas.{level_behind}
use Rattle.klsm_pile.proofs.spilling.run_of_level.Given as goal

abbrev pub invariant-loop-index : goal.invariant-loop-index
invariant-loop-index g l = record {
  items : l.run.items ++ level_behind l.level l.index l.front.items ≡ level_behind l.level l.keep l.front.items;
  room : l.count ≤ l.run.capacity;
}
