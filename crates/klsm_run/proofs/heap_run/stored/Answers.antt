use Rattle.std.proofs.Common.{rules}
use Rattle.klsm_run.proofs.heap_run.stored.Goals as goal

pub returns-clause-items : goal.returns-clause-items
returns-clause-items g c = search rules
