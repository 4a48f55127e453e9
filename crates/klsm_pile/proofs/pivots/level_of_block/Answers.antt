use Rattle.std.proofs.Common.{◌∙◌, refl, arith}
use Rattle.klsm_pile.proofs.PivotLemmas.{block_found, block_behind, there_behind, there_below, block_below, none_below}
use Rattle.klsm_pile.proofs.pivots.level_of_block.Goals as goal

pub loop-level-init : goal.loop-level-init
loop-level-init c = record { within = omega arith; block = λ ps counts_are. refl; there = λ ps counts_are there. there }

pub bounds-counts-level : goal.bounds-counts-level
bounds-counts-level c = omega (arith, c.loop-level-test.true, c.loop-level.invariant.within)

pub returns-then-left-eq0-clause-block : goal.returns-then-left-eq0-clause-block
returns-then-left-eq0-clause-block c ps counts_are =
    c.loop-level.invariant.block ps counts_are
    ∙ block_found c.args.counts.now c.loop-level.level c.loop-level.left ps c.loop-level-test.true c.loop-level.invariant.within c.if-counts-level-ne0.true c.if-left-eq0.true counts_are

pub loop-level-preserved-then-counts-level-ne0 : goal.loop-level-preserved-then-counts-level-ne0
loop-level-preserved-then-counts-level-ne0 c = record {
  within = omega (arith, c.loop-level.invariant.within);
  block = λ ps counts_are.
      c.loop-level.invariant.block ps counts_are
      ∙ block_behind c.args.counts.now c.loop-level.level c.loop-level.left ps c.loop-level-test.true c.loop-level.invariant.within c.if-counts-level-ne0.true c.if-left-eq0.false counts_are;
  there = λ ps counts_are there.
      there_behind c.args.counts.now c.loop-level.level c.loop-level.left ps c.loop-level-test.true c.loop-level.invariant.within c.if-counts-level-ne0.true c.if-left-eq0.false counts_are
      (c.loop-level.invariant.there ps counts_are there);
}

pub loop-level-preserved : goal.loop-level-preserved
loop-level-preserved c = record {
  within = omega (arith, c.loop-level.invariant.within);
  block = λ ps counts_are.
      c.loop-level.invariant.block ps counts_are
      ∙ block_below c.args.counts.now c.loop-level.level c.loop-level.left ps c.loop-level-test.true c.loop-level.invariant.within c.if-counts-level-ne0.false counts_are;
  there = λ ps counts_are there.
      there_below c.args.counts.now c.loop-level.level c.loop-level.left ps c.loop-level-test.true c.loop-level.invariant.within c.if-counts-level-ne0.false counts_are
      (c.loop-level.invariant.there ps counts_are there);
}

pub unreachable-requires : goal.unreachable-requires
unreachable-requires c =
    none_below c.loop-level.level c.loop-level.left c.requires.there.0 (omega (arith, c.loop-level-test.false)) (c.loop-level.invariant.there c.requires.there.0 c.requires.there.1 c.requires.there.2)
