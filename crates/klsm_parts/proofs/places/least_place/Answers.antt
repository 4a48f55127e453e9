use Rattle.std.proofs.Common.{◌≡◌, [], Some, get_or, refl, sym, ◌∙◌}
use Rattle.std.specs.List.{slice_get}
use Rattle.klsm_parts.proofs.places.least_place.Goals as goal

pub returns-in_err-block : goal.returns-in_err-block
returns-in_err-block g c = rw (c.from_residual.ensures, c.in_err-block.ensures) (record { item = refl; place = tt; first = tt })

pub returns : goal.returns
returns g c =
    let bs = c.args.lsm.now in
    let place = c.first_of.result in
    let here : slice_get (get_or bs place.block []) place.index ≡ Some place.item =
    rw (c.first_of.ensures.place.0, c.first_of.ensures.place.1) c.first_of.ensures.item in
    record { item = sym c.first_of.ensures.item ∙ c.in_ok-block.ensures.1; place = (rw c.first_of.ensures.place.0 c.in_ok-block.ensures.0, here); first = c.first_of.ensures.place.1 }
