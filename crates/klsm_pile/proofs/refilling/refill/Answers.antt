use Rattle.klsm_pile.proofs.ContentLemmas.{items_distinct}
use Rattle.klsm_pile.proofs.RefillLemmas.{filled_same, filled_held}
use Rattle.klsm_pile.proofs.refilling.refill.Goals as goal

pub fill-requires-clause-distinct : goal.fill-requires-clause-distinct
fill-requires-clause-distinct g c = items_distinct c.requires.held.0 _ c.requires.held.2.below c.requires.held.2.lawful

pub returns-then-len-needed-clause-held : goal.returns-then-len-needed-clause-held
returns-then-len-needed-clause-held g c levels counts held =
    filled_held levels _ _ _ _ _ counts c.fill.ensures.filled c.drop_empty.ensures.same c.drop_empty.ensures.below held

pub returns-then-len-needed-clause-same : goal.returns-then-len-needed-clause-same
returns-then-len-needed-clause-same g c = filled_same _ _ _ _ _ c.fill.ensures.filled c.drop_empty.ensures.same
