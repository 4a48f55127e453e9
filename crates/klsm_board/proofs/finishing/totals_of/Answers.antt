use Rattle.klsm_board.proofs.lemmas.ending.SumLemmas.{one_more}
use Rattle.klsm_board.proofs.finishing.totals_of.Goals as goal

pub loop-number-preserved : goal.loop-number-preserved
loop-number-preserved g c =
    let found = c.in-Some.ensures.found in
    one_more c.args.members.now c.loop-number.number c.loop-number.totals.inserted c.loop-number.totals.deleted c.in-Some.counts.inserted c.in-Some.counts.deleted
    c.loop-number.invariant found.0 found.1 found.2 found.3 found.4
