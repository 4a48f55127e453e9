use Rattle.std.proofs.Common.{refl, arith}
use Rattle.std.proofs.lemmas.Bool.{both_ways}
use Rattle.klsm_lsm.proofs.FallLemmas.{cut_joins, cut_is_alone}
use Rattle.klsm_lsm.proofs.lsm.Lsm.partner.Goals as goal

pub returns-then-joins_next : goal.returns-then-joins_next
returns-then-joins_next g c =
    let joins = c.joins_next.ensures.0 c.if-joins_next.true in
    (refl, joins.within, joins.some_left, λ index inside. cut_joins c.args.self.now c.args.block index 1 joins (omega (arith, inside)))

pub returns : goal.returns
returns g c index inside =
    cut_is_alone c.args.self.now c.args.block index 1 c.requires (λ joins. both_ways c.joins_next.result c.if-joins_next.false (c.joins_next.ensures.1 joins)) (omega (arith, inside))
