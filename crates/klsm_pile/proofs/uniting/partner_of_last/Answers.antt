use Rattle.std.proofs.Common.{arith}
use Rattle.klsm_pile.proofs.PairLemmas.{partners_if}
use Rattle.klsm_pile.proofs.uniting.partner_of_last.Goals as goal

pub returns-then-can_unite : goal.returns-then-can_unite
returns-then-can_unite g c =
    partners_if c.args.pieces.now _ _ c.index-pieces-at.result c.index-pieces-last.result c.can_unite.result (omega (arith, c.loop-at-test.true)) (omega (arith, c.if-pieces-eq0.false)) c.index-pieces-at.is c.index-pieces-last.is
    c.if-can_unite.true c.can_unite.ensures
