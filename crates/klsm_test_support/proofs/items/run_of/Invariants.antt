use Rattle.klsm_test_support.proofs.OwnerLemmas.{AreFirst}
use Rattle.klsm_test_support.proofs.items.run_of.Given as goal

-- the items so far
abbrev pub invariant-loop-index : goal.invariant-loop-index
invariant-loop-index l = AreFirst l.owner l.index l.run
