use Rattle.klsm_board.proofs.lemmas.ending.NumberLemmas.{NoneBelow}
use Rattle.klsm_board.proofs.finishing.counts_of.Given as goal

-- no member before this one has the number
abbrev pub invariant-loop-member : goal.invariant-loop-member
invariant-loop-member g l = NoneBelow l.members l.number l.member-index
