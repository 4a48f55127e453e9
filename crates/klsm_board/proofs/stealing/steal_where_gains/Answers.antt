use Rattle.std.proofs.Common.{refl, sym}
use Rattle.klsm_board.proofs.lemmas.calls.StealLemmas.{as_gained, as_not_gained}
use Rattle.klsm_board.proofs.stealing.steal_where_gains.Goals as goal

pub returns-then-gains-clause-done : goal.returns-then-gains-clause-done
returns-then-gains-clause-done g c k t kind =
    let content = g.S.Holding.content in
    as_gained content c.args.front c.args.most k c.args.own.now c.args.victim.now c.steal.new.self c.steal.new.victim c.steal.result c.least.result c.least-2.result c.least.ensures.is c.least-2.ensures.is (sym c.if-gains.ensures) (c.steal.ensures.done k t kind)

pub returns-else-gains-clause-done : goal.returns-else-gains-clause-done
returns-else-gains-clause-done g c k t kind =
    let content = g.S.Holding.content in
    (as_not_gained c.args.front c.args.most k (content c.args.own.now) (content c.args.victim.now) c.least.result c.least-2.result c.least.ensures.is c.least-2.ensures.is (sym c.if-gains.ensures), refl, refl)
