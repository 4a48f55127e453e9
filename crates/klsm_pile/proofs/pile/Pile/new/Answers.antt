use Rattle.klsm_pile.proofs.PileLemmas.{pile_new, pile_new_shown}
use Rattle.klsm_pile.proofs.pile.Pile.new.Goals as goal

pub invariant_of-result : goal.invariant_of-result
invariant_of-result g c =
    pile_new g.row.LEVELS c.args.reach c.new.result.capacity _ _ _ c.new.ensures c.new-2.ensures.items c.from_array_in.ensures.items c.requires.levels c.requires.some c.requires.reach

pub returns : goal.returns
returns g c = pile_new_shown g.row.LEVELS c.args.reach _ _ c.new.ensures c.new-2.ensures.items
