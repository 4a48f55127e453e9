use Rattle.std.proofs.Common.{◌∙◌, [], List, ap, arith, length}
use Rattle.klsm_run.specs.declared.item.Item.{Item}
use Rattle.klsm_lsm.specs.Lsm.{content}
use Rattle.klsm_parts.specs.Parts.{PartState}
use Rattle.klsm_parts.proofs.FitLemmas.{first_fits}
use Rattle.klsm_parts.proofs.OwnLemmas.{none_found}
use Rattle.klsm_parts.proofs.local.Local.clear.Goals as goal

pub clear-requires : goal.clear-requires
clear-requires g c = search first_fits

pub invariant_of-self : goal.invariant_of-self
invariant_of-self g c = record { few = omega (arith, ap (λ bs. length (content bs)) c.clear.ensures); k_in_range = c.self.invariant.k_in_range; capacity_in_range = c.self.invariant.capacity_in_range; found_is = none_found c.clear.new.self }

pub returns : goal.returns
returns g c = ap (λ (bs : List (List Item)). record { k = c.self.inside.k; blocks = bs }) c.clear.ensures ∙ ap (λ (p : PartState). record { k = p.k; blocks = [] }) c.self.view_is
