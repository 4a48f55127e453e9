use Rattle.std.proofs.Common.{length, ap, arith}
use Rattle.klsm_lsm.proofs.StoredLemmas.{few_blocks, count_blocks}
use Rattle.klsm_lsm.proofs.lsm.Lsm.blocks.Goals as goal

pub returns-clause-within : goal.returns-clause-within
returns-clause-within g c = few_blocks c.self.invariant

pub returns-clause-blocks : goal.returns-clause-blocks
returns-clause-blocks g c = omega (arith, count_blocks c.self.invariant, ap length c.self.view_is)
