use Rattle.std.proofs.Common.{◌≡◌, refl, ◌∙◌, ap, arith, length, drop}
use Rattle.klsm_pile.proofs.FirstLemmas.{left_more, placed_more, some_left, level_next, counted_next, counts_next, placed_all}
use Rattle.klsm_pile.proofs.leaving.move_first.Goals as goal

pub loop-place-init : goal.loop-place-init
loop-place-init g c = record { items = refl; placed = refl; counted = λ ps counts_are. counts_are; capacity = refl }

pub remove_first-level-requires : goal.remove_first-level-requires
remove_first-level-requires g c =
    let some = some_left c.loop-place.place-index (length c.args.places.now) c.args.front.now.items c.loop-place.front.items c.loop-place-test.true c.requires.there c.loop-place.invariant.items in
    omega (arith, some)

pub take_from-requires-clause-level : goal.take_from-requires-clause-level
take_from-requires-clause-level g c =
    omega (arith, c.loop-place.auto.counts, level_next (length c.args.counts.now) c.loop-place.place-index c.args.front.now.items c.loop-place.front.items _ c.remove_first-level.result c.loop-place.invariant.items c.remove_first-level.ensures.items c.requires.below)

pub take_from-requires-clause-count : goal.take_from-requires-clause-count
take_from-requires-clause-count g c =
    let less = level_next (length c.args.counts.now) c.loop-place.place-index c.args.front.now.items c.loop-place.front.items _ c.remove_first-level.result c.loop-place.invariant.items c.remove_first-level.ensures.items c.requires.below in
    counted_next c.loop-place.counts c.loop-place.front.items _ c.remove_first-level.result c.requires.counted.0 (omega (arith, less, c.loop-place.auto.counts)) c.remove_first-level.ensures.items
    (c.loop-place.invariant.counted c.requires.counted.0 c.requires.counted.1)

pub loop-place-preserved : goal.loop-place-preserved
loop-place-preserved g c =
    let less = level_next (length c.args.counts.now) c.loop-place.place-index c.args.front.now.items c.loop-place.front.items _ c.remove_first-level.result c.loop-place.invariant.items c.remove_first-level.ensures.items c.requires.below in
    record {
      items = left_more c.loop-place.place-index c.args.front.now.items c.loop-place.front.items _ c.remove_first-level.result c.loop-place.invariant.items c.remove_first-level.ensures.items;
      placed = placed_more c.loop-place.place-index c.args.front.now.items c.loop-place.front.items _ c.remove_first-level.result c.loop-place.places (omega (arith, c.loop-place-test.true, c.loop-place.auto.places)) c.loop-place.invariant.placed
          c.loop-place.invariant.items c.remove_first-level.ensures.items;
      counted = λ ps counts_are.
          counts_next c.loop-place.counts c.take_from.new.counts c.loop-place.front.items _ c.remove_first-level.result ps (omega (arith, less, c.loop-place.auto.counts)) c.take_from.auto.counts c.take_from.ensures c.remove_first-level.ensures.items
          (c.loop-place.invariant.counted ps counts_are);
      capacity = c.remove_first-level.ensures.capacity ∙ c.loop-place.invariant.capacity;
    }

pub returns-clause-taken : goal.returns-clause-taken
returns-clause-taken g c =
    placed_all c.loop-place.place-index (length c.args.places.now) _ c.loop-place.places c.loop-place.auto.places (omega (arith, c.loop-place-test.false, c.loop-place.auto.place-index-end)) c.loop-place.invariant.placed

pub returns-clause-left : goal.returns-clause-left
returns-clause-left g c =
    let done : c.loop-place.place-index ≡ length c.args.places.now = omega (arith, c.loop-place-test.false, c.loop-place.auto.place-index-end) in
    c.loop-place.invariant.items ∙ ap (λ n. drop n c.args.front.now.items) done

pub returns-clause-counted : goal.returns-clause-counted
returns-clause-counted g c = c.loop-place.invariant.counted

pub returns-clause-capacity : goal.returns-clause-capacity
returns-clause-capacity g c = c.loop-place.invariant.capacity
