use Rattle.std.proofs.Common.{ap, ◌∙◌, arith}
use Rattle.klsm_pile.specs.Settling.{regrouped_level}
use Rattle.klsm_pile.proofs.RegroupLemmas.{regrouped_step, regrouped_length}
use Rattle.klsm_pile.proofs.levels.regroup_pieces.Goals as goal

pub loop-index-preserved : goal.loop-index-preserved
loop-index-preserved g c = record {
  items = regrouped_step c.args.low c.args.high c.args.to c.loop-index.index c.level_within-level.result c.loop-index.pieces.items c.args.pieces.now.items c.index.result.now c.index_mut.result.now c.set_level.new.self
      c.loop-index.invariant.items (omega (arith, c.loop-index-test.true, c.len-index-end.ensures, c.args.pieces.now.ok))
      (omega (arith, c.loop-index-test.true, c.len-index-end.ensures, c.args.pieces.now.ok, regrouped_length _ _ _ _ _ c.args.pieces.now.items c.loop-index.invariant.items))
      c.index.ensures c.index_mut.ensures.value (c.level_within-level.ensures ∙ ap (regrouped_level c.args.low c.args.high c.args.to) c.level.ensures) c.set_level.ensures;
  capacity = c.loop-index.invariant.capacity;
}
