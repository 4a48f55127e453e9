use Rattle.std.proofs.Common.{arith, rules}
use Rattle.klsm_test_support.proofs.OwnerLemmas.{absent_next, first_more}
use Rattle.klsm_test_support.proofs.items.run_of.Goals as goal

pub insert-requires : goal.insert-requires
insert-requires c =
    let first = c.loop-index.invariant in
    (search rules, (omega (arith, first.len, c.loop-index-test.true, c.requires), absent_next c.loop-index.index c.item.result c.loop-index.run c.item.ensures.number first.numbers))

pub loop-index-preserved : goal.loop-index-preserved
loop-index-preserved c = first_more c.args.owner c.loop-index.index c.loop-index.run c.insert.new.self c.item.result c.insert.ensures c.item.ensures.owner c.item.ensures.number c.loop-index.invariant
