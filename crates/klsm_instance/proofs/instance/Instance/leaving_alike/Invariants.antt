use Rattle.std.proofs.Common.{◌≡◌, ◌+◌, ◌-◌, ◌≤◌, ℕ}
use Rattle.klsm_instance.proofs.AlikeLemmas.{ArePassed}
use Rattle.klsm_instance.proofs.instance.Instance.leaving_alike.Given as goal

abbrev pub decreases-loop-level : goal.decreases-loop-level
decreases-loop-level l = l.len - l.level

abbrev pub invariant-loop-level : goal.invariant-loop-level
invariant-loop-level l = record {
  within : l.level ≤ l.len;
  passed : (i : ℕ) × (l.level ≡ i + 1) × ArePassed l.self l.node.level l.node.picks i l.thing;
}
