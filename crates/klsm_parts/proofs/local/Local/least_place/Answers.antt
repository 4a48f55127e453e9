use Rattle.std.proofs.Common.{Some, subst}
use Rattle.klsm_parts.specs.LeastPlaces.{IsLeastPlace}
use Rattle.klsm_parts.specs.Parts.{PartState}
use Rattle.klsm_parts.proofs.FitLemmas.{first_fits}
use Rattle.klsm_parts.proofs.OwnLemmas.{place_if_block}
use Rattle.klsm_parts.proofs.local.Local.least_place.Goals as goal

pub first_of-requires : goal.first_of-requires
first_of-requires g c = (search first_fits, (c.self.invariant.found_is c.in-Some.block c.in-Some.is).inside)

pub returns-in-Some : goal.returns-in-Some
returns-in-Some g c =
    let known = c.first_of.ensures in
    subst (λ (p : PartState). IsLeastPlace p.blocks (Some c.first_of.result)) c.self.view_is
    (place_if_block c.self.inside.lsm c.in-Some.block c.first_of.result known.place.0 known.place.1 known.item (c.self.invariant.found_is c.in-Some.block c.in-Some.is))
