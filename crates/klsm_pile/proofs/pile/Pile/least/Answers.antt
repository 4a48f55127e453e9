use Rattle.std.proofs.Common.{arith, sym}
use Rattle.klsm_pile.proofs.PileLemmas.{item_shown, none_shown}
use Rattle.klsm_pile.proofs.RemoveLemmas.{item_at}
use Rattle.klsm_pile.proofs.pile.Pile.least.Goals as goal

pub returns-then-len-eq0 : goal.returns-then-len-eq0
returns-then-len-eq0 g c =
    none_shown g.row.LEVELS _ _ _ _ _ _ _ c.self.invariant c.self.view_is (omega (arith, c.len.ensures, c.if-len-eq0.true))

pub returns : goal.returns
returns g c =
    sym (item_shown g.row.LEVELS _ _ _ 0 _ _ _ _ _ c.self.invariant c.self.view_is (item_at _ 0 _ (omega (arith, c.len.ensures, c.if-len-eq0.false)) c.at.ensures))
