use Rattle.std.proofs.Common.{◌≡◌, ◌+◌, ◌++◌, ap, ◌∙◌, arith, suc, drop, take}
use Rattle.klsm_lsm.proofs.slots.remove_from.Goals as goal

pub returns-then-from-eq0-clause-rest : goal.returns-then-from-eq0-clause-rest
returns-then-from-eq0-clause-rest g c =
    let sum : c.args.from + c.args.count ≡ c.args.count = omega (arith, c.if-from-eq0.true) in
    rw (sum, c.if-from-eq0.true) c.remove_first.ensures.rest

pub returns-else-from-eq0-clause-rest : goal.returns-else-from-eq0-clause-rest
returns-else-from-eq0-clause-rest g c =
    let items = g.R.Run.items c.args.run.now in
    let next : suc c.args.from ≡ c.args.from + c.args.count = omega (arith, c.requires.one (omega (arith, c.if-from-eq0.false))) in
    c.remove_at-item.ensures.rest ∙ ap (λ n. take c.args.from items ++ drop n items) next

pub remove_at-item-requires : goal.remove_at-item-requires
remove_at-item-requires g c = omega (arith, c.requires.one (omega (arith, c.if-from-eq0.false)), c.requires.within)

pub remove_first-requires : goal.remove_first-requires
remove_first-requires g c = omega (arith, c.requires.within)
