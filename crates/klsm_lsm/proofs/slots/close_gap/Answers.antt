use Rattle.std.proofs.Common.{arith}
use Rattle.klsm_lsm.proofs.GapLemmas.{closed}
use Rattle.klsm_lsm.proofs.slots.close_gap.Goals as goal

pub close_up-requires-clause-order : goal.close_up-requires-clause-order
close_up-requires-clause-order g c = omega arith

pub close_up-requires-clause-within : goal.close_up-requires-clause-within
close_up-requires-clause-within g c = omega (arith, c.requires.at, c.requires.within)

pub returns-clause-moved : goal.returns-clause-moved
returns-clause-moved g c = closed _ _ _ _ c.requires.at c.close_up.ensures.moved
