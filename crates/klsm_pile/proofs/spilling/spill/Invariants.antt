use Rattle.std.proofs.Common.{◌≡◌, ◌++◌, drop, vec_capacity}
use Rattle.klsm_pile.proofs.SpillLemmas.{spilled}
use Rattle.klsm_pile.proofs.spilling.spill.Given as goal

abbrev pub invariant-loop-level : goal.invariant-loop-level
invariant-loop-level g l = record {
  pieces : l.pieces.items ≡ l.fn.pieces.items ++ spilled l.level (drop l.keep l.front.items);
  capacity : vec_capacity l.pieces ≡ vec_capacity l.fn.pieces;
}
