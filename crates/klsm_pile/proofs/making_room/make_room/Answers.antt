use Rattle.std.proofs.Common.{arith, ◌+◌, ◌≤◌, length}
use Rattle.klsm_pile.specs.Absorbing.{AreLow}
use Rattle.klsm_pile.specs.Piles.{IsConsistent}
use Rattle.klsm_pile.proofs.LowLemmas.{front_apart, same_apart}
use Rattle.klsm_pile.proofs.making_room.make_room.Goals as goal
use Rattle.klsm_pile.proofs.making_room.make_room.Goals.{then-items-places, else-items-places}

pub count_low-low-requires-clause-apart : goal.count_low-low-requires-clause-apart
count_low-low-requires-clause-apart g c = front_apart c.args.front.now.items c.args.pieces.now.items c.args.items.now c.requires.apart

pub returns-then-low-places-clause-low : goal.returns-then-low-places-clause-low
returns-then-low-places-clause-low g c = (
  c.count_low-low.ensures.low _ c.requires.held.1.ordered,
  omega (arith, c.if-low-places.true, c.len.ensures, c.requires.fits),
)

pub count_low-requires-clause-apart : goal.count_low-requires-clause-apart
count_low-requires-clause-apart g c = same_apart c.args.front.now.items c.spill.new.front.items c.args.pieces.now.items c.spill.new.pieces.items c.args.items.now c.in_ok-spill.ensures.same c.requires.apart

pub returns-clause-low : goal.returns-clause-low
returns-clause-low g c =
    let held : IsConsistent c.args.levels c.spill.new.front.items c.spill.new.pieces.items c.requires.held.0 = c.in_ok-spill.ensures.held c.requires.held.0 c.requires.held.1 in
    let low : AreLow c.count_low.result c.args.items.now c.spill.new.front.items c.spill.new.pieces.items = c.count_low.ensures.low c.spill.new.pieces.items held.ordered in
    let fits : length c.spill.new.front.items + c.count_low.result ≤ c.args.places = elim c.if-items-places.branch [
      | then-items-places w ↦ omega (arith, w.if-items-places.true, w.keep-is, c.in_ok-spill.ensures.kept, low.within, c.requires.places)
      | else-items-places w ↦ omega (arith, w.keep-is, c.in_ok-spill.ensures.kept, c.count_low.ensures.none)
    ] in
    (low, fits)
