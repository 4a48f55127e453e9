use Rattle.std.proofs.Common.{◌+◌, ◌-◌, ◌≤◌}
use Rattle.klsm_union.proofs.HeadLemmas.{IsCounted}
use Rattle.klsm_union.proofs.counting.shares_by_steps.Given as goal

abbrev pub invariant-loop-i : goal.invariant-loop-i
invariant-loop-i l = record {
  counted : IsCounted l.left l.right l.i l.j;
  few : l.i + l.j ≤ l.count;
}

abbrev pub decreases-loop-i : goal.decreases-loop-i
decreases-loop-i l = l.count - (l.i + l.j)
