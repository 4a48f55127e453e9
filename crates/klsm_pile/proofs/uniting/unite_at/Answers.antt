use Rattle.std.proofs.Common.{arith}
use Rattle.klsm_pile.proofs.PairLemmas.{pieces_apart, pieces_few, pair_same, pair_below}
use Rattle.klsm_pile.proofs.uniting.unite_at.Goals as goal

pub merge-requires-clause-apart : goal.merge-requires-clause-apart
merge-requires-clause-apart g c = pieces_apart c.args.pieces.now.items c.args.one c.args.other _ _ c.requires.partners c.index.ensures c.index-2.ensures c.requires.distinct

pub merge-requires-clause-room : goal.merge-requires-clause-room
merge-requires-clause-room g c =
    omega (arith, pieces_few c.args.pieces.now.items c.args.one c.args.other c.index.result.now c.index-2.result.now c.requires.partners c.index.ensures c.index-2.ensures, c.requires.few)

pub returns-clause-same : goal.returns-clause-same
returns-clause-same g c =
    pair_same c.args.pieces.now.items c.remove.new.self.items c.args.one c.args.other c.index.result.now c.index-2.result.now c.in-Some.both c.requires.partners c.index.ensures c.index-2.ensures c.in-Some.ensures c.remove.ensures.items

pub returns-clause-below : goal.returns-clause-below
returns-clause-below g c levels below =
    pair_below levels c.args.pieces.now.items c.remove.new.self.items c.args.one c.args.other c.index.result.now c.in-Some.both _ c.requires.partners c.index.ensures c.in-Some.ensures c.remove.ensures.items below
