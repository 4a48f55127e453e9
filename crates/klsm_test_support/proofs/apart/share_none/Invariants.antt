use Rattle.klsm_test_support.proofs.ApartLemmas.{ShareNoneUpTo}
use Rattle.klsm_test_support.proofs.apart.share_none.Given as goal

abbrev pub invariant-loop-item : goal.invariant-loop-item
invariant-loop-item l = ShareNoneUpTo l.items l.others l.item-index
