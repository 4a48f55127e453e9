use Rattle.std.proofs.Common.{◌≡◌, ◌+◌, ◌-◌, ◌≤◌, ◌^◌, [], length, sym, ◌∙◌, arith}
use Rattle.std.proofs.lemmas.Option.{get_or_from_slice_get}
use Rattle.klsm_lsm.proofs.LevelLemmas.{level_is}
use Rattle.klsm_lsm.proofs.UnitedLemmas.{uniting_first, uniting_more, united_all, united_up_to, one_within}
use Rattle.klsm_lsm.proofs.lsm.Lsm.cascade.Goals as goal
use Rattle.klsm_lsm.proofs.lsm.Lsm.cascade.Goals.{then-loop-first-test+else-level-joined, else-loop-first-test}

pub loop-first-init : goal.loop-first-init
loop-first-init g c = record {
  order = omega arith;
  level_is = omega arith;
  uniting = λ run block apart. uniting_first c.args.self.now c.args.level c.place_of_level-end.result _ run (omega arith) c.place_of_level-end.ensures.above c.place_of_level-end.ensures.below block apart;
}

pub overflow_add-joined : goal.overflow_add-joined
overflow_add-joined g c =
    let block = get_or_from_slice_get c.args.self.now (c.loop-first.first - 1) _ [] c.block.ensures.block in
    let fits : length (g.R.Run.items c.block.result.now) ≤ 2 ^ 64 =
    rw (← block) (omega (arith, one_within c.args.self.now (c.loop-first.first - 1), c.len-known.ensures.len, c.len-known.type_inv)) in
    omega (arith, c.level.ensures.least 64 fits, c.if-level-joined.true)

pub loop-first-preserved : goal.loop-first-preserved
loop-first-preserved g c =
    let bs = c.args.self.now in
    let first = c.loop-first.first in
    let end = c.place_of_level-end.result in
    let block = get_or_from_slice_get bs (first - 1) _ [] c.block.ensures.block in
    let is = level_is _ c.level.result c.level.ensures.enough c.level.ensures.least in
    let count : end - (first - 1) ≡ end - first + 1 = omega (arith, c.loop-first.invariant.order, c.loop-first-test.true) in
    record {
      order = omega (arith, c.loop-first.invariant.order);
      level_is = omega (arith, count, c.loop-first.invariant.level_is);
      uniting = λ run is_block apart. rw count (uniting_more bs c.args.level first (end - first) end _ run c.len-known.ensures.lawful c.loop-first-test.true (omega (arith, c.loop-first.invariant.order, c.place_of_level-end.ensures.within)) (sym block)
          (sym is ∙ (c.if-level-joined.true ∙ c.loop-first.invariant.level_is)) (c.loop-first.invariant.uniting run is_block apart));
    }

pub returns : goal.returns
returns g c = record {
  within = omega (arith, c.loop-first.invariant.order, c.place_of_level-end.ensures.within);
  adds = λ run is_block apart. elim c.loop-first-test.branch [
    | then-loop-first-test+else-level-joined w ↦
        let block = get_or_from_slice_get c.args.self.now (c.loop-first.first - 1) _ [] w.block.ensures.block in
        let is = level_is _ w.level.result w.level.ensures.enough w.level.ensures.least in
        united_up_to c.args.self.now c.args.level c.loop-first.first _ c.place_of_level-end.result _ run c.len-known.ensures.lawful w.loop-first-test.true (omega (arith, c.loop-first.invariant.order, c.place_of_level-end.ensures.within)) (sym block)
        (λ same. w.if-level-joined.false (is ∙ (same ∙ sym c.loop-first.invariant.level_is))) (omega (arith, c.loop-first.invariant.order)) (c.loop-first.invariant.uniting run is_block apart)
    | else-loop-first-test w ↦
        united_all c.args.self.now c.args.level c.loop-first.first _ c.place_of_level-end.result run (omega (arith, w.loop-first-test.false)) (omega (arith, c.loop-first.invariant.order)) (c.loop-first.invariant.uniting run is_block apart)
  ];
}
