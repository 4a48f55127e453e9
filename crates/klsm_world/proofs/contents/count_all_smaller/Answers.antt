use Rattle.std.proofs.Common.{◌≤◌, length, arith, refl, ap, ◌∙◌}
use Rattle.std.specs.List.{flat_map}
use Rattle.std.proofs.lemmas.List.{take_all}
use Rattle.std.proofs.lemmas.List.Sums.{count_by-le-length}
use Rattle.klsm_run.specs.ItemOrder.{is_smaller}
use Rattle.klsm_run.specs.Content.{skipped}
use Rattle.klsm_world.proofs.lemmas.kept.LiveListLemmas.{skipped_more}
use Rattle.klsm_world.proofs.contents.count_all_smaller.Goals as goal

pub loop-content-init : goal.loop-content-init
loop-content-init g c = record { counted = refl; bounded = omega arith }

pub overflow_add-count : goal.overflow_add-count
overflow_add-count g c =
    let few : skipped c.as_slice.result.now c.args.item ≤ length c.as_slice.result.now = count_by-le-length (λ y. is_smaller y c.args.item) c.as_slice.result.now in
    omega (arith, few, c.count_smaller-count.ensures, c.requires, c.loop-content-test.true, c.loop-content.invariant.bounded, c.as_slice.type_inv.1)

pub loop-content-preserved : goal.loop-content-preserved
loop-content-preserved g c =
    let content = c.as_slice.result.now in
    let more = skipped_more c.args.contents.now c.loop-content.content-index content c.content-item.result c.args.item c.loop-content-test.true (c.as_slice.ensures ∙ c.content-item.is) in
    let few : skipped content c.args.item ≤ length content = count_by-le-length (λ y. is_smaller y c.args.item) content in
    record {
      counted = omega (arith, more, c.count_smaller-count.ensures, c.loop-content.invariant.counted);
      bounded = omega (arith, few, c.count_smaller-count.ensures, c.as_slice.type_inv.1, c.loop-content.invariant.bounded);
    }

pub returns : goal.returns
returns g c =
    c.loop-content.invariant.counted
    ∙ ap (λ contents. skipped (flat_map (λ c. c) contents) c.args.item) (take_all c.loop-content.content-index c.args.contents.now c.loop-content-test.false)
