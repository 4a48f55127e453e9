use Rattle.std.proofs.Common.{arith, ap, ◌∙◌, slice_set}
use Rattle.std.proofs.lemmas.List.{get_or_default}
use Rattle.std.proofs.lemmas.List.Edits.{map_over_more}
use Rattle.klsm_pile.specs.Settling.{regrouped_level}
use Rattle.klsm_pile.proofs.front.relabel_all.Goals as goal

pub loop-level-preserved : goal.loop-level-preserved
loop-level-preserved c =
    ap (slice_set c.loop-level.levels c.loop-level.level-index) c.level_within.ensures
    ∙ map_over_more (regrouped_level c.args.low c.args.high c.args.to) c.args.levels.now c.loop-level.levels c.loop-level.level-index _ c.loop-level-test.true c.loop-level.invariant
    (get_or_default c.loop-level.levels c.loop-level.level-index _ _ (omega (arith, c.loop-level-test.true, c.loop-level.auto.levels)))
