use Rattle.std.proofs.Common.{subst, arith}
use Rattle.std.specs.Prelude.{◌==◌}
use Rattle.klsm_pile.specs.Counting.{IsNextBelow}
use Rattle.klsm_pile.proofs.StoreLemmas.{picked_few, group_alone, group_low, group_next}
use Rattle.klsm_pile.proofs.levels.group_of.Goals as goal

pub returns-in_default-clause-settles : goal.returns-in_default-clause-settles
returns-in_default-clause-settles c ps counts_are numbered =
    group_alone _ _ _ _ _ ps c.requires.level c.requires.left c.requires.own c.requires.fits c.in_default.is c.next_below.ensures counts_are

pub returns-then-next-own-clause-settles : goal.returns-then-next-own-clause-settles
returns-then-next-own-clause-settles c ps counts_are numbered =
    group_low _ _ _ _ _ _ ps c.requires.level c.requires.left c.requires.own c.requires.fits c.in-Some.is c.if-next-own.true c.next_below.ensures counts_are

pub overflow_add-left : goal.overflow_add-left
overflow_add-left c =
    let ps = c.requires.parts.0 in
    let found = subst (IsNextBelow c.args.counts.now c.args.level) c.in-Some.is c.next_below.ensures in
    omega (
      arith,
      c.requires.left,
      c.requires.parts.1 c.args.level c.requires.level,
      picked_few (λ n. n == c.args.level) ps,
      c.requires.parts.1 c.in-Some.next (omega (arith, c.requires.level, found.0)),
      picked_few (λ n. n == c.in-Some.next) ps,
      c.requires.parts.3,
    )

pub returns-clause-order : goal.returns-clause-order
returns-clause-order c =
    (group_next _ _ _ _ _ _ _ c.requires.parts.0 c.requires.level c.requires.left c.requires.own c.in-Some.is c.if-next-own.false c.next_below.ensures c.requires.parts.1 c.requires.parts.2 c.level_of.ensures.level).0.order

pub returns-clause-within : goal.returns-clause-within
returns-clause-within c =
    (group_next _ _ _ _ _ _ _ c.requires.parts.0 c.requires.level c.requires.left c.requires.own c.in-Some.is c.if-next-own.false c.next_below.ensures c.requires.parts.1 c.requires.parts.2 c.level_of.ensures.level).0.within

pub returns-clause-settles : goal.returns-clause-settles
returns-clause-settles c ps counts_are numbered =
    (group_next _ _ _ _ _ _ _ ps c.requires.level c.requires.left c.requires.own c.in-Some.is c.if-next-own.false c.next_below.ensures counts_are numbered c.level_of.ensures.level).1
