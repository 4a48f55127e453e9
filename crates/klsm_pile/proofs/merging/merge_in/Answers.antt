use Rattle.std.proofs.Common.{sym, subst, arith, ◌∙◌, length, ◌-◌}
use Rattle.klsm_pile.proofs.MergeLemmas.{IsMerging, merging_first, merging_mine_at, merging_theirs_first, merging_theirs_at, merging_last, merging_room, merging_sum}
use Rattle.klsm_pile.proofs.merging.merge_in.Goals as goal
use Rattle.klsm_pile.proofs.merging.merge_in.Goals.{else-left-gt0-via-then-left-gt0+else-is_before, else-left-gt0-via-else-left-gt0}

pub loop-right-init : goal.loop-right-init
loop-right-init g c = record {
  merging = subst (λ n. IsMerging c.args.front.now.items c.args.level c.args.items.now c.append.new.self.items n (length c.args.items.now)) (sym c.len-left.ensures)
      (merging_first c.args.front.now.items c.append.new.self.items c.args.level c.args.items.now c.append.ensures.items);
  capacity = c.append.ensures.capacity;
}

pub overflow_add-left : goal.overflow_add-left
overflow_add-left g c = omega (arith, merging_sum _ _ _ _ _ _ _ c.append.ensures.items c.loop-right.invariant.merging, c.len-known.ensures, c.len-known.type_inv)

pub overflow_add-left-else-left-gt0 : goal.overflow_add-left-else-left-gt0
overflow_add-left-else-left-gt0 g c = omega (arith, merging_sum _ _ _ _ _ _ _ c.append.ensures.items c.loop-right.invariant.merging, c.len-known.ensures, c.len-known.type_inv)

pub set-requires : goal.set-requires
set-requires g c = omega (arith, merging_room _ _ _ _ _ _ c.loop-right-test.true c.loop-right.invariant.merging)

pub loop-right-preserved-then-is_before : goal.loop-right-preserved-then-is_before
loop-right-preserved-then-is_before g c = record {
  merging = subst (λ fs. IsMerging c.args.front.now.items c.args.level c.args.items.now fs (c.loop-right.left - 1) c.loop-right.right) (sym c.set.ensures.items)
      (merging_mine_at _ _ _ _ _ _ c.at.result c.at-then-is_before.result _ c.if-left-gt0.true c.loop-right-test.true c.requires.ascending c.requires.items_ascending c.at.ensures c.at-then-is_before.ensures c.if-is_before.ensures c.loop-right.invariant.merging);
  capacity = c.set.ensures.capacity ∙ c.loop-right.invariant.capacity;
}

pub set-requires-else-left-gt0 : goal.set-requires-else-left-gt0
set-requires-else-left-gt0 g c = omega (arith, merging_room _ _ _ _ _ _ c.loop-right-test.true c.loop-right.invariant.merging)

pub loop-right-preserved : goal.loop-right-preserved
loop-right-preserved g c = record {
  merging = subst (λ fs. IsMerging c.args.front.now.items c.args.level c.args.items.now fs c.loop-right.left (c.loop-right.right - 1)) (sym c.set-else-left-gt0.ensures.items) (elim c.else-left-gt0.branch [
    | else-left-gt0-via-then-left-gt0+else-is_before w ↦
        merging_theirs_at _ _ _ _ _ _ w.at.result _ w.if-left-gt0.true c.loop-right-test.true c.requires.ascending c.requires.items_ascending c.requires.apart w.at.ensures w.if-is_before.ensures c.loop-right.invariant.merging
    | else-left-gt0-via-else-left-gt0 w ↦ merging_theirs_first _ _ _ _ _ _ _ w.if-left-gt0.false c.loop-right-test.true c.requires.items_ascending c.loop-right.invariant.merging
  ]);
  capacity = c.set-else-left-gt0.ensures.capacity ∙ c.loop-right.invariant.capacity;
}

pub returns-clause-merged : goal.returns-clause-merged
returns-clause-merged g c = merging_last _ _ _ _ _ _ (omega (arith, c.loop-right-test.false)) c.requires.ascending c.loop-right.invariant.merging
