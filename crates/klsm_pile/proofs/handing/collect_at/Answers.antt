use Rattle.std.proofs.Common.{◌∙◌}
use Rattle.klsm_pile.proofs.HandingLemmas.{below_again}
use Rattle.klsm_pile.proofs.handing.collect_at.Goals as goal

pub returns-then-is_none-clause-below : goal.returns-then-is_none-clause-below
returns-then-is_none-clause-below g c levels below =
    c.split_at.ensures.below levels (below_again levels c.args.pieces.now.items c.args.at c.index_mut-piece.result.now _ c.index_mut-piece.ensures.value (c.collect-spent.ensures ∙ c.is_given_up-is_given_up.ensures) below)
