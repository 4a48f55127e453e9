use Rattle.std.proofs.Common.{◌≡◌, ◌++◌, take, drop, vec_capacity}
use Rattle.klsm_pile.specs.Settling.{regrouped}
use Rattle.klsm_pile.proofs.levels.regroup_pieces.Given as goal

abbrev pub invariant-loop-index : goal.invariant-loop-index
invariant-loop-index g l = record {
  items : l.pieces.items ≡ regrouped l.low l.high l.to (take l.index l.fn.pieces.items) ++ drop l.index l.fn.pieces.items;
  capacity : vec_capacity l.pieces ≡ vec_capacity l.fn.pieces;
}
