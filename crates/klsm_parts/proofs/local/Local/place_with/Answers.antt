use Rattle.std.proofs.Common.{subst, sym, arith}
use Rattle.std.proofs.lemmas.Option.{same_Some}
use Rattle.klsm_parts.specs.Parts.{PartState, HasLeastFirst}
use Rattle.klsm_parts.proofs.FitLemmas.{first_fits}
use Rattle.klsm_parts.proofs.FoundLemmas.{with_one, place_of_new, place_of_old}
use Rattle.klsm_parts.proofs.local.Local.place_with.Goals as goal

pub first_of-requires : goal.first_of-requires
first_of-requires g c = (search first_fits, (c.self.invariant.found_is c.in_ok-found.found c.in_ok-found.was).inside)

pub returns-then-is_before : goal.returns-then-is_before
returns-then-is_before g c at is =
    let bs = c.self.inside.lsm in
    let there = place_of_new bs c.args.item c.first_of.result.item c.in_ok-found.found (c.self.invariant.found_is c.in_ok-found.found c.in_ok-found.was) c.first_of.ensures.item (sym c.if-is_before.ensures) in
    let here = same_Some c.blocks-count.result at is in
    subst (λ (p : PartState). HasLeastFirst (with_one p.blocks c.args.item) at) c.self.view_is
    (subst (HasLeastFirst (with_one bs c.args.item)) (omega (arith, c.blocks-count.ensures, here)) there)

pub returns : goal.returns
returns g c at is =
    let bs = c.self.inside.lsm in
    let there = place_of_old bs c.args.item c.first_of.result.item c.in_ok-found.found (c.self.invariant.found_is c.in_ok-found.found c.in_ok-found.was) c.first_of.ensures.item (sym c.if-is_before.ensures) in
    subst (λ (p : PartState). HasLeastFirst (with_one p.blocks c.args.item) at) c.self.view_is
    (subst (HasLeastFirst (with_one bs c.args.item)) (same_Some c.in_ok-found.found at is) there)
