use Rattle.std.proofs.Common.{ap, length, arith, refl, ◌∙◌}
use Rattle.std.specs.List.{flat_map}
use Rattle.std.proofs.lemmas.List.{take_all}
use Rattle.klsm_world.proofs.lemmas.kept.LiveListLemmas.{length_more}
use Rattle.klsm_world.proofs.contents.count_all.Goals as goal

pub loop-content-init : goal.loop-content-init
loop-content-init g c = record { counted = refl; bounded = omega arith }

pub overflow_add-count : goal.overflow_add-count
overflow_add-count g c = omega (arith, c.requires, c.loop-content-test.true, c.loop-content.invariant.bounded, c.as_slice.type_inv.1)

pub loop-content-preserved : goal.loop-content-preserved
loop-content-preserved g c =
    let more = length_more c.args.contents.now c.loop-content.content-index c.as_slice.result.now c.content-item.result c.loop-content-test.true (c.as_slice.ensures ∙ c.content-item.is) in
    record {
      counted = omega (arith, more, c.loop-content.invariant.counted);
      bounded = omega (arith, c.as_slice.type_inv.1, c.loop-content.invariant.bounded);
    }

pub returns : goal.returns
returns g c =
    c.loop-content.invariant.counted ∙ ap (λ contents. length (flat_map (λ c. c) contents)) (take_all c.loop-content.content-index c.args.contents.now c.loop-content-test.false)
