use Rattle.std.proofs.Common.{get_or, sym, arith}
use Rattle.klsm_run.specs.declared.item.Item.{Item}
use Rattle.klsm_instance.specs.Nodes.{NoneAbove, level_in, picks_in}
use Rattle.klsm_knapsack.proofs.EndLemmas.{finished_more, is_best}
use Rattle.klsm_knapsack.proofs.ending.conclude.Goals as goal
use Rattle.klsm_knapsack.proofs.ending.conclude.Goals.{in-Some, in_default}

pub returns-clause-best : goal.returns-clause-best
returns-clause-best c = λ searched. is_best c.args.instance.now c.args.number c.args.left.now c.loop-item.best searched c.loop-item.invariant.answer c.loop-item.invariant.kept (λ k x lt found node. c.loop-item.invariant.finished k x (omega (arith, c.loop-item-test.false)) found node)

pub loop-item-init : goal.loop-item-init
loop-item-init c = record {
  answer = record {
    feasible = rw c.unpacked-value.ensures.low c.requires.feasible;
    value = rw (c.unpacked-value.ensures.low, c.unpacked-value.ensures.high) c.requires.value;
  };
  kept = omega (arith, c.unpacked-value.ensures.high);
  finished = λ k x lt. absurd (omega (arith, lt));
}

pub loop-item-preserved : goal.loop-item-preserved
loop-item-preserved c =
    let p = c.args.instance.now in
    let inv = c.loop-item.invariant in
    let none : Item = record { key = 0; stamp = record { owner = 0; number = 0 }; load = 0 } in
    elim c.match-node_of.branch [
      | in-Some w ↦
          let node = w.in-Some.ensures in
          let finished = w.finish-best.ensures in
          let closed : NoneAbove p (level_in (get_or c.args.left.now c.loop-item.item-index none).load) (picks_in (get_or c.args.left.now c.loop-item.item-index none).load) w.finish-best.result.value = rw (sym node.1, sym node.2) finished.covers in
          rw w.best-is record {
            answer = finished.answer;
            kept = omega (arith, inv.kept, finished.kept);
            finished = finished_more p c.args.left.now c.loop-item.item-index c.loop-item.best.value w.finish-best.result.value none finished.kept inv.finished (λ is_item. closed);
          }
      | in_default w ↦ rw w.best-is record {
        answer = inv.answer;
        kept = inv.kept;
        finished = finished_more p c.args.left.now c.loop-item.item-index c.loop-item.best.value c.loop-item.best.value none (omega arith) inv.finished (λ is_item. absurd (w.in_default.ensures is_item.node));
      }
    ]
