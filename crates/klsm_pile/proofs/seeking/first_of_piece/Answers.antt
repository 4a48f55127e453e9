use Rattle.klsm_pile.proofs.SeekingLemmas.{sought_two, sought_one}
use Rattle.klsm_pile.proofs.seeking.first_of_piece.Goals as goal

pub returns-in-Some : goal.returns-in-Some
returns-in-Some g c = sought_two c.args.bound _ _ c.args.piece.now.items c.first_above-first.result c.first_above.result c.in-Some.item c.lesser.result c.slices.ensures.items c.first_above-first.ensures c.first_above.ensures c.in-Some.is c.lesser.ensures

pub returns-in-None : goal.returns-in-None
returns-in-None g c = sought_one c.args.bound _ _ c.args.piece.now.items c.first_above-first.result c.first_above.result c.slices.ensures.items c.first_above-first.ensures c.first_above.ensures c.in-None.is
