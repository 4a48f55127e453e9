use Rattle.std.proofs.Common.{refl}
use Rattle.klsm_pile.proofs.StoreLemmas.{gathered}
use Rattle.klsm_pile.proofs.counts.gather.Goals as goal

pub returns-clause-counted : goal.returns-clause-counted
returns-clause-counted c ps counts_are =
    gathered c.args.low c.args.high c.args.to _ c.args.counts.now c.clear_between-sum.new.counts _ ps c.requires.order c.requires.within c.requires.fits c.clear_between-sum.ensures.len counts_are
    (c.clear_between-sum.ensures.sum ps counts_are) c.clear_between-sum.ensures.cleared c.clear_between-sum.ensures.kept refl
