use Rattle.std.proofs.Common.{◌≡◌, ◌≤◌, length, take}
use Rattle.klsm_pile.specs.Pieces.{at_level}
use Rattle.klsm_pile.specs.Front.{singles}
use Rattle.klsm_pile.proofs.pivots.count_first.Given as goal

abbrev pub invariant-loop-index : goal.invariant-loop-index
invariant-loop-index g l = record {
  few : l.count ≤ l.index;
  count : l.count ≡ length (at_level l.level (singles (take l.index l.front.items)));
}
