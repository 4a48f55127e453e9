use Rattle.std.proofs.Common.{arith, length, ◌<◌}
use Rattle.klsm_lsm.specs.Slots.{block_in}
use Rattle.klsm_lsm.proofs.SlotLemmas.{slot_holds}
use Rattle.klsm_lsm.proofs.slots.held.Goals as goal

pub unreachable-requires : goal.unreachable-requires
unreachable-requires g c =
    let some : 0 < length (block_in g.R.Run.items c.index-slots-index.result) = slot_holds g.R.Run.items _ _ _ c.requires.lawful c.requires.index c.index-slots-index.is in
    omega (arith, rw c.in_default.is at some)

pub returns-clause-some : goal.returns-clause-some
returns-clause-some g c = rw c.in-Some.is at (slot_holds g.R.Run.items _ _ _ c.requires.lawful c.requires.index c.index-slots-index.is)
