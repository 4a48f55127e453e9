use Rattle.std.proofs.Common.{◌≤◌, subst}
use Rattle.klsm_parts.specs.Parts.{PartState}
use Rattle.klsm_parts.proofs.FitLemmas.{first_fits, run_fits}
use Rattle.klsm_parts.proofs.local.Local.k.Goals as goal

pub returns-clause-k : goal.returns-clause-k
returns-clause-k g c = search

pub returns-clause-within : goal.returns-clause-within
returns-clause-within g c = subst (λ (p : PartState). p.k ≤ g.row.CAP) c.self.view_is c.self.invariant.k_in_range

pub len-known-requires-room-R-Run : goal.len-known-requires-room-R-Run
len-known-requires-room-R-Run g c κs = search run_fits

pub len-known-requires : goal.len-known-requires
len-known-requires g c = search first_fits
