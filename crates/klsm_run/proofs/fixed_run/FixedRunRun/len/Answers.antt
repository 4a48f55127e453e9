use Rattle.std.proofs.Common.{◌∙◌, sym, ap, length}
use Rattle.klsm_run.proofs.StoreLemmas.{fixed_count}
use Rattle.klsm_run.proofs.fixed_run.FixedRunRun.len.Goals as goal

pub returns-clause-len : goal.returns-clause-len
returns-clause-len g c = c.len.ensures ∙ (sym (fixed_count c.self.invariant) ∙ ap length c.self.view_is)
