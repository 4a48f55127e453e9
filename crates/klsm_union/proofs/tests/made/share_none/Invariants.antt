use Rattle.klsm_union.proofs.ApartLemmas.{ShareNoneUpTo}
use Rattle.klsm_union.proofs.tests.made.share_none.Given as goal

abbrev pub invariant-loop-item : goal.invariant-loop-item
invariant-loop-item l = ShareNoneUpTo l.items l.others l.item-index
