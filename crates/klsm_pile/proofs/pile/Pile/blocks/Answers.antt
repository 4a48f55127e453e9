use Rattle.klsm_pile.proofs.PivotLemmas.{blocks_counted}
use Rattle.klsm_pile.proofs.pile.Pile.blocks.Goals as goal

pub returns : goal.returns
returns g c = blocks_counted g.row.LEVELS _ _ _ _ _ _ _ _ _ c.self.invariant c.as_slice.ensures.value c.self.view_is c.count_blocks.ensures
