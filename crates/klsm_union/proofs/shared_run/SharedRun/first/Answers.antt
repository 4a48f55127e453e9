use Rattle.std.proofs.Common.{subst}
use Rattle.klsm_run.specs.Content.{IsAscending}
use Rattle.klsm_run.proofs.HalfLemmas.{ascending_drop}
use Rattle.klsm_union.proofs.shared_run.SharedRun.first.Goals as goal

pub returns-clause-ascending : goal.returns-clause-ascending
returns-clause-ascending g c = subst IsAscending c.self.view_is (ascending_drop c.self.inside.start _ c.self.invariant.ascending)
