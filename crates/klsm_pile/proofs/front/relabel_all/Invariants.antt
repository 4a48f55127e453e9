use Rattle.std.proofs.Common.{◌≡◌, ◌++◌, take, drop, map}
use Rattle.klsm_pile.specs.Settling.{regrouped_level}
use Rattle.klsm_pile.proofs.front.relabel_all.Given as goal

abbrev pub invariant-loop-level : goal.invariant-loop-level
invariant-loop-level l = l.levels ≡ map (regrouped_level l.low l.high l.to) (take l.level-index l.fn.levels) ++ drop l.level-index l.fn.levels
