use Rattle.std.proofs.Common.{◌<◌, ◌≤◌, length, drop}
use Rattle.std.specs.List.{AllByRecursion}
use Rattle.klsm_lsm.specs.Level.{level}
use Rattle.klsm_lsm.proofs.lsm.Lsm.place_of_level.Given as goal

-- the blocks from here on are of lesser levels
abbrev pub invariant-loop-place : goal.invariant-loop-place
invariant-loop-place g l = record {
  within : l.place ≤ length l.self;
  below : AllByRecursion (λ b. level b < l.least) (drop l.place l.self);
}

abbrev pub decreases-loop-place : goal.decreases-loop-place
decreases-loop-place g l = l.place
