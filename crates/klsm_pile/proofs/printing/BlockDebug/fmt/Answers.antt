use Rattle.klsm_pile.proofs.PrintingLemmas.{fewer_over}
use Rattle.klsm_pile.proofs.printing.BlockDebug.fmt.Goals as goal

pub loop-item-smaller : goal.loop-item-smaller
loop-item-smaller g c = fewer_over _ _ _ _ c.next_of_level.ensures c.in-Some.is
