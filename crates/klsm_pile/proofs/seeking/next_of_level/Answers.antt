use Rattle.klsm_pile.proofs.SeekingLemmas.{sought_both, sought_front}
use Rattle.klsm_pile.proofs.seeking.next_of_level.Goals as goal

pub returns-in-Some : goal.returns-in-Some
returns-in-Some g c =
    sought_both c.args.level c.args.front.now.items c.args.pieces.now c.args.bound c.next_of_front-fetched.result c.next_of_pieces.result c.in-Some.item c.lesser.result c.next_of_front-fetched.ensures c.next_of_pieces.ensures c.in-Some.is
    c.lesser.ensures

pub returns-in-None : goal.returns-in-None
returns-in-None g c =
    sought_front c.args.level c.args.front.now.items c.args.pieces.now c.args.bound c.next_of_front-fetched.result c.next_of_pieces.result c.next_of_front-fetched.ensures c.next_of_pieces.ensures c.in-None.is
