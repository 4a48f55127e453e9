use Rattle.std.proofs.Common.{◌+◌, length, ap, ◌∙◌, arith}
use Rattle.klsm_pile.proofs.SpillLemmas.{level_behind, level_few, counted_here, counted_other, counted_all}
use Rattle.klsm_pile.proofs.spilling.count_level.Goals as goal
use Rattle.klsm_pile.proofs.spilling.count_level.Goals.{then-at-level, else-at-level}

pub loop-index-init : goal.loop-index-init
loop-index-init g c = omega arith

pub overflow_add-count : goal.overflow_add-count
overflow_add-count g c =
    omega (
      arith,
      c.loop-index-test.true,
      c.len-index-end.ensures,
      c.requires,
      level_few c.args.level c.args.keep c.args.front.now.items,
      counted_here c.args.level c.loop-index.index c.loop-index.count _ c.args.front.now.items c.at.result (omega (arith, c.loop-index-test.true, c.len-index-end.ensures)) c.at.ensures c.if-at-level.true c.loop-index.invariant,
    )

pub loop-index-preserved : goal.loop-index-preserved
loop-index-preserved g c = elim c.if-at-level.branch [
  | then-at-level w ↦
      ap (λ n. n + length (level_behind c.args.level (c.loop-index.index + 1) c.args.front.now.items)) w.count-is
      ∙ counted_here c.args.level c.loop-index.index c.loop-index.count _ c.args.front.now.items c.at.result (omega (arith, c.loop-index-test.true, c.len-index-end.ensures)) c.at.ensures w.if-at-level.true c.loop-index.invariant
  | else-at-level w ↦
      ap (λ n. n + length (level_behind c.args.level (c.loop-index.index + 1) c.args.front.now.items)) w.count-is
      ∙ counted_other c.args.level c.loop-index.index c.loop-index.count _ c.args.front.now.items c.at.result (omega (arith, c.loop-index-test.true, c.len-index-end.ensures)) c.at.ensures w.if-at-level.false c.loop-index.invariant
]

pub returns : goal.returns
returns g c = counted_all c.args.level c.loop-index.index c.loop-index.count _ c.args.front.now.items (omega (arith, c.loop-index-test.false, c.len-index-end.ensures)) c.loop-index.invariant
