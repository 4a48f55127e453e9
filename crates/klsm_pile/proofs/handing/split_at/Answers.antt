use Rattle.klsm_pile.proofs.HandingLemmas.{split_same, split_below}
use Rattle.klsm_pile.proofs.handing.split_at.Goals as goal

pub returns-in-Some-clause-same : goal.returns-in-Some-clause-same
returns-in-Some-clause-same g c =
    split_same c.args.pieces.now.items _ c.args.at c.index_mut.result.now c.split.new.self c.in-Some.other c.requires c.index_mut.ensures.value c.in-Some.ensures.two.0 c.split.ensures.level c.in-Some.ensures.two.1 c.push_reserved.ensures.items

pub returns-in-Some-clause-below : goal.returns-in-Some-clause-below
returns-in-Some-clause-below g c levels below =
    split_below levels c.args.pieces.now.items _ c.args.at c.index_mut.result.now c.split.new.self c.in-Some.other c.requires c.index_mut.ensures.value c.split.ensures.level c.in-Some.ensures.two.1 c.push_reserved.ensures.items below
