use Rattle.klsm_lsm.proofs.LeastBlockLemmas.{IsFirstFound}
use Rattle.klsm_lsm.proofs.lsm.Lsm.least_block.Given as goal

-- the least first item of the blocks so far
abbrev pub invariant-loop-block : goal.invariant-loop-block
invariant-loop-block g l = IsFirstFound l.self l.block l.found
