use Rattle.std.proofs.Common.{◌≤◌, ◌∙◌, ap, length, subst}
use Rattle.klsm_lsm.specs.Lsm.{IsLsm, content}
use Rattle.klsm_parts.specs.Parts.{PartState}
use Rattle.klsm_parts.proofs.FitLemmas.{first_fits, run_fits}
use Rattle.klsm_parts.proofs.local.Local.len.Goals as goal

pub len-requires-room-R-Run : goal.len-requires-room-R-Run
len-requires-room-R-Run g c κs = search run_fits

pub len-requires : goal.len-requires
len-requires g c = search first_fits

pub returns-clause-len : goal.returns-clause-len
returns-clause-len g c = c.len.ensures.len ∙ ap (λ (p : PartState). length (content p.blocks)) c.self.view_is

pub returns-clause-few : goal.returns-clause-few
returns-clause-few g c = subst (λ (p : PartState). length (content p.blocks) ≤ p.k) c.self.view_is c.self.invariant.few

pub returns-clause-lawful : goal.returns-clause-lawful
returns-clause-lawful g c = subst (λ (p : PartState). IsLsm p.blocks) c.self.view_is c.len.ensures.lawful
