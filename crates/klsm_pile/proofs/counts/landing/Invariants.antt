use Rattle.std.proofs.Common.{ℕ, ◌-◌, ◌<◌, ◌≤◌, length, slice_index_or}
use Rattle.klsm_pile.proofs.counts.landing.Given as goal

abbrev pub invariant-loop-to : goal.invariant-loop-to
invariant-loop-to l = record {
  order : l.from ≤ l.to;
  within : l.to ≤ length l.counts;
  taken : (k : ℕ) → l.from ≤ k → k < l.to → 0 < slice_index_or l.counts k 0;
}

abbrev pub decreases-loop-to : goal.decreases-loop-to
decreases-loop-to l = length l.counts - l.to
