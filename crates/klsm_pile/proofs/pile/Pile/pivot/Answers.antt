use Rattle.klsm_pile.specs.Front.{parts}
use Rattle.klsm_pile.proofs.PivotLemmas.{slots_counted, block_there, pivot_counted}
use Rattle.klsm_pile.proofs.pile.Pile.pivot.Goals as goal

pub level_of_block-level-requires : goal.level_of_block-level-requires
level_of_block-level-requires g c = record {
  there = (
    parts c.self.inside.front.items c.self.inside.pieces.items,
    slots_counted g.row.LEVELS _ _ _ _ _ _ _ c.self.invariant c.as_slice.ensures.value,
    block_there g.row.LEVELS _ _ _ c.args.block _ _ _ _ _ c.self.invariant c.as_slice.ensures.value c.self.view_is c.requires,
  );
}

pub returns : goal.returns
returns g c =
    pivot_counted g.row.LEVELS _ _ _ c.args.block _ _ _ _ _ _ _ c.self.invariant c.as_slice.ensures.value c.self.view_is c.level_of_block-level.ensures.block c.count_first.ensures
