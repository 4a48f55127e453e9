use Rattle.std.proofs.Common.{◌≡◌, ◌+◌}
use Rattle.klsm_pile.proofs.MergeLemmas.{IsMerging}
use Rattle.klsm_pile.proofs.merging.merge_in.Given as goal

abbrev pub invariant-loop-right : goal.invariant-loop-right
invariant-loop-right g l = record {
  merging : IsMerging l.fn.front.items l.level l.items l.front.items l.left l.right;
  capacity : l.front.capacity ≡ l.fn.front.capacity;
}

abbrev pub decreases-loop-right : goal.decreases-loop-right
decreases-loop-right g l = l.left + l.right
