use Rattle.std.proofs.Common.{◌≡◌}
use Rattle.klsm_world.specs.WorldView.{AreLimits}
use Rattle.klsm_schedules.specs.Worlds.{limits_of}
use Rattle.klsm_world.proofs.lemmas.traces.TraceLemmas.{HasRun}
use Rattle.klsm_world.proofs.running.run.Given as goal

-- the steps before `index` have run
abbrev pub invariant-loop-index : goal.invariant-loop-index
invariant-loop-index g l = record {
  limits : l.world.limits ≡ limits_of l.threads l.k;
  limits_are : AreLimits (limits_of l.threads l.k);
  run : HasRun (limits_of l.threads l.k) l.steps l.index l.world.world l.inserted.items l.deleted.items l.most;
}
