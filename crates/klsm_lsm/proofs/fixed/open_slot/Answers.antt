use Rattle.std.proofs.Common.{arith, take, ap, refl, ◌∙◌}
use Rattle.std.proofs.lemmas.List.{take-append-le}
use Rattle.klsm_lsm.proofs.fixed.open_slot.Goals as goal

pub len-requires : goal.len-requires
len-requires g c = search

pub push-requires : goal.push-requires
push-requires g c = (search, omega (arith, c.len.ensures.value, c.if-count-len.true, c.requires.levels))

pub returns-then-count-len-clause-kept : goal.returns-then-count-len-clause-kept
returns-then-count-len-clause-kept g c = ap (take c.args.count) c.push.ensures.items ∙ take-append-le c.args.count c.args.slots.now.items _ c.requires.within

pub returns-then-count-len-clause-within : goal.returns-then-count-len-clause-within
returns-then-count-len-clause-within g c = omega (arith, c.push.ensures.len, c.requires.within)

pub returns-else-count-len-clause-kept : goal.returns-else-count-len-clause-kept
returns-else-count-len-clause-kept g c = refl

pub returns-else-count-len-clause-within : goal.returns-else-count-len-clause-within
returns-else-count-len-clause-within g c = omega (arith, c.len.ensures.value, c.if-count-len.false, c.requires.within)
