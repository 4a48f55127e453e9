use Rattle.klsm_board.proofs.slot.BoardSlotPartSlot.discard.Goals as goal

pub unreachable-requires : goal.unreachable-requires
unreachable-requires g c = c.in_default.not-Vacant c.requires

pub returns : goal.returns
returns g c = tt

pub unreachable-unreachable : goal.unreachable-unreachable
unreachable-unreachable g c = c.unreachable.type_inv
