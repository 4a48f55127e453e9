use Rattle.klsm_board.proofs.lemmas.ending.SumLemmas.{AreSummed}
use Rattle.klsm_board.proofs.finishing.totals_of.Given as goal

-- the numbers before this one have members, whose items are counted
abbrev pub invariant-loop-number : goal.invariant-loop-number
invariant-loop-number g l = AreSummed l.members l.number l.totals.inserted l.totals.deleted
