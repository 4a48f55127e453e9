use Rattle.std.proofs.Common.{refl, ap, ◌∙◌, arith, length}
use Rattle.klsm_pile.specs.Pieces.{blocks_below}
use Rattle.klsm_pile.proofs.PivotLemmas.{count_more, count_same}
use Rattle.klsm_pile.proofs.pivots.count_blocks.Goals.{then-counts-level-ne0, else-counts-level-ne0}
use Rattle.klsm_pile.proofs.pivots.count_blocks.Goals as goal

pub loop-level-init : goal.loop-level-init
loop-level-init c = record { few = omega arith; blocks = λ ps counts_are. refl }

pub loop-level-preserved : goal.loop-level-preserved
loop-level-preserved c = elim c.if-counts-level-ne0.branch [
  | then-counts-level-ne0 w ↦ record {
    few = omega (arith, w.blocks-is, c.loop-level.invariant.few);
    blocks = λ ps counts_are. w.blocks-is ∙ count_more c.args.counts.now c.loop-level.level c.loop-level.blocks ps c.loop-level-test.true w.if-counts-level-ne0.true counts_are (c.loop-level.invariant.blocks ps counts_are);
  }
  | else-counts-level-ne0 w ↦ record {
    few = omega (arith, w.blocks-is, c.loop-level.invariant.few);
    blocks = λ ps counts_are. w.blocks-is ∙ count_same c.args.counts.now c.loop-level.level c.loop-level.blocks ps c.loop-level-test.true w.if-counts-level-ne0.false counts_are (c.loop-level.invariant.blocks ps counts_are);
  }
]

pub returns : goal.returns
returns c ps counts_are =
    c.loop-level.invariant.blocks ps counts_are ∙ ap (λ n. length (blocks_below n ps)) (omega (arith, c.loop-level-test.false, c.loop-level.auto.level-end))
