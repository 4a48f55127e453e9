use Rattle.klsm_board.specs.Knowing.{AreCounted}
use Rattle.klsm_board.proofs.together.tally_of.Given as goal

-- the numbers before this one have members, whose items are in the tally
abbrev pub invariant-loop-number : goal.invariant-loop-number
invariant-loop-number g l = AreCounted l.members l.number l.tally.inserted l.tally.deleted
