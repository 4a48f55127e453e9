use Rattle.std.proofs.Common.{rules, arith, refl}
use Rattle.klsm_parts.proofs.FitLemmas.{field_fits, local_fits}
use Rattle.klsm_parts.proofs.QueueLemmas.{queue_of_none}
use Rattle.klsm_parts.proofs.queue.Queue.new.Goals as goal

pub new-requires : goal.new-requires
new-requires g c = (local_fits _ c.requires.capacity, (c.requires.capacity, c.requires.k))

pub new-requires-2 : goal.new-requires-2
new-requires-2 g c = (search field_fits, (c.requires.levels, omega (arith, c.requires.k, c.requires.capacity.at_most)))

pub invariant_of-result : goal.invariant_of-result
invariant_of-result g c =
    rw (c.new.ensures, c.new-2.ensures) (queue_of_none g.row.CAP g.row.LEVELS c.args.k c.requires.k c.requires.capacity c.requires.levels)

pub returns-clause-none : goal.returns-clause-none
returns-clause-none g c = rw (c.new.ensures, c.new-2.ensures) refl

pub returns-clause-k : goal.returns-clause-k
returns-clause-k g c = search

pub returns-clause-inserted : goal.returns-clause-inserted
returns-clause-inserted g c = search
