use Rattle.std.proofs.Common.{◌∙◌, refl, arith}
use Rattle.klsm_pile.proofs.PivotLemmas.{first_more, first_other, first_all}
use Rattle.klsm_pile.proofs.pivots.count_first.Goals.{then-at-level, else-at-level}
use Rattle.klsm_pile.proofs.pivots.count_first.Goals as goal

pub loop-index-init : goal.loop-index-init
loop-index-init g c = record { few = omega arith; count = refl }

pub loop-index-preserved : goal.loop-index-preserved
loop-index-preserved g c =
    elim c.if-at-level.branch [
      | then-at-level w ↦ record {
        few = omega (arith, w.count-is, c.loop-index.invariant.few);
        count = w.count-is ∙ first_more _ _ _ _ c.at.result (omega (arith, c.loop-index-test.true, c.min-index-end.ensures, c.len.ensures)) c.at.ensures w.if-at-level.true c.loop-index.invariant.count;
      }
      | else-at-level w ↦ record {
        few = omega (arith, w.count-is, c.loop-index.invariant.few);
        count = w.count-is ∙ first_other _ _ _ _ c.at.result (omega (arith, c.loop-index-test.true, c.min-index-end.ensures, c.len.ensures)) c.at.ensures w.if-at-level.false c.loop-index.invariant.count;
      }
    ]

pub returns : goal.returns
returns g c =
    first_all c.args.level c.loop-index.index c.args.most _ c.args.front.now.items (omega (arith, c.loop-index-test.false, c.min-index-end.ensures, c.len.ensures))
    (omega (arith, c.loop-index.auto.index-end, c.min-index-end.ensures)) c.loop-index.invariant.count
