use Rattle.klsm_pile.proofs.PileLemmas.{pile_distinct}
use Rattle.klsm_pile.proofs.pile.Pile.item_at.Goals as goal

pub item_listed-requires-clause-distinct : goal.item_listed-requires-clause-distinct
item_listed-requires-clause-distinct g c = pile_distinct g.row.LEVELS _ _ _ _ _ _ _ c.self.invariant c.as_slice.ensures.value

pub item_listed-requires-clause-counted : goal.item_listed-requires-clause-counted
item_listed-requires-clause-counted g c = rw (c.as_slice-2.ensures.value, c.as_slice.ensures.value) c.self.invariant.held.counted
