use Rattle.std.proofs.Common.{◌≡◌, ◌+◌, length}
use Rattle.klsm_pile.proofs.SpillLemmas.{level_behind}
use Rattle.klsm_pile.proofs.spilling.count_level.Given as goal

abbrev pub invariant-loop-index : goal.invariant-loop-index
invariant-loop-index g l = l.count + length (level_behind l.level l.index l.front.items) ≡ length (level_behind l.level l.keep l.front.items)
