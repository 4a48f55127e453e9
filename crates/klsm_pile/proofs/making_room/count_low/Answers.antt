use Rattle.std.proofs.Common.{arith}
use Rattle.klsm_pile.proofs.LowLemmas.{low_under, low_none}
use Rattle.klsm_pile.proofs.making_room.count_low.Goals as goal

pub returns-then-len-eq0-clause-low : goal.returns-then-len-eq0-clause-low
returns-then-len-eq0-clause-low g c ps ordered = low_none c.args.front.now.items c.args.items.now ps (omega (arith, c.len-len.ensures, c.if-len-eq0.true))

pub returns-clause-low : goal.returns-clause-low
returns-clause-low g c ps ordered =
    low_under c.args.front.now.items c.at.result c.args.items.now c.count_under.result _ ps c.len-len.ensures (omega (arith, c.if-len-eq0.false)) c.at.ensures c.requires.ascending c.requires.apart
    (omega (arith, c.count_under.ensures.within)) c.count_under.ensures.under c.count_under.ensures.stops ordered
