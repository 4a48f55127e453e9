use Rattle.std.proofs.Common.{◌≡◌, ◌<◌, ◌∙◌, refl, sym, false, true}
use Rattle.klsm_parts.specs.Events.{times}
use Rattle.klsm_world.proofs.lemmas.lists.ConditionLemmas.{within_if_each, each_if_within}
use Rattle.klsm_world.proofs.lemmas.lists.RestLemmas.{all_seen, not_all_seen, all_seen_at_end}
use Rattle.klsm_schedules.proofs.lemmas.lists.ListLemmas.{no_item}
use Rattle.klsm_world.proofs.conditions.are_within.Goals as goal

pub returns-then-not-has : goal.returns-then-not-has
returns-then-not-has c = (
  λ bad. cc,
  λ within. absurd (not_all_seen (λ x. 0 < times x c.args.items.now) c.args.moved.now c.loop-item.item-index no_item c.loop-item-test.true
      (λ some. let bad : false ≡ true = sym c.if-not-has.true ∙ c.has.ensures.1 some in cc) c.loop-item.invariant (each_if_within c.args.moved.now c.args.items.now within)),
)

pub loop-item-preserved : goal.loop-item-preserved
loop-item-preserved c =
    all_seen (λ x. 0 < times x c.args.items.now) c.args.moved.now c.loop-item.item-index no_item c.loop-item-test.true (c.has.ensures.0 c.if-not-has.false) c.loop-item.invariant

pub returns : goal.returns
returns c = (
  λ all. within_if_each c.args.moved.now c.args.items.now c.requires (all_seen_at_end (λ x. 0 < times x c.args.items.now) c.args.moved.now c.loop-item.item-index c.loop-item-test.false c.loop-item.invariant),
  λ within. refl,
)
