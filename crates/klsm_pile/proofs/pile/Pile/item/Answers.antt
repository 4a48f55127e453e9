use Rattle.std.proofs.Common.{arith}
use Rattle.klsm_pile.proofs.PileLemmas.{in_front, item_shown}
use Rattle.klsm_pile.proofs.RemoveLemmas.{item_at}
use Rattle.klsm_pile.proofs.pile.Pile.item.Goals as goal

pub at-requires : goal.at-requires
at-requires g c =
    omega (arith, in_front g.row.LEVELS _ _ _ c.args.rank _ _ _ _ c.self.invariant c.self.view_is c.requires.reach c.requires.there)

pub returns : goal.returns
returns g c =
    let there = in_front g.row.LEVELS _ _ _ c.args.rank _ _ _ _ c.self.invariant c.self.view_is c.requires.reach c.requires.there in
    item_shown g.row.LEVELS _ _ _ c.args.rank _ _ _ _ _ c.self.invariant c.self.view_is (item_at _ c.args.rank _ there c.at.ensures)
