use Rattle.std.proofs.Common.{◌≡◌, ◌≢◌, ◌+◌, ◌<◌, ◌∷◌, ◌∙◌, true, false, get_or, length, sym, arith}
use Rattle.std.specs.List.{AllByRecursion}
use Rattle.klsm_run.specs.Content.{IsAscending}
use Rattle.klsm_parts.specs.Events.{times, IsWithin}
use Rattle.klsm_world.proofs.lemmas.lists.ConditionLemmas.{other_if_unequal, not_counted, within_if_each, each_if_within, stay_counted}
use Rattle.std.proofs.lemmas.Bool.{ltb-true, lt-ltb}
use Rattle.klsm_world.proofs.lemmas.lists.RestLemmas.{not_all_seen, all_seen_at_end}
use Rattle.klsm_schedules.proofs.lemmas.lists.ListLemmas.{no_item}
use Rattle.klsm_world.proofs.conditions.may_flush.Goals as goal

pub returns-then-not-has : goal.returns-then-not-has
returns-then-not-has c =
    let own = c.args.own.now in let moved = c.args.moved.now in let x = c.args.item in
    let one = get_or moved c.loop-one.one-index no_item in
    let other : one ≢ x = other_if_unequal one x c.if-ne.ensures in
    let absent : 0 < times one own → ⊥ = λ some. let bad : false ≡ true = sym c.if-not-has.true ∙ c.has.ensures.1 some in cc in (
      λ bad. cc,
      λ may. absurd (not_all_seen (λ y. 0 < times y (x ∷ own)) moved c.loop-one.one-index no_item c.loop-one-test.true (not_counted one x own other absent) c.loop-one.invariant (each_if_within moved (x ∷ own) may.within)),
    )

pub returns : goal.returns
returns c =
    let own = c.args.own.now in let moved = c.args.moved.now in let x = c.args.item in
    let up : IsAscending moved = c.is_ascending.ensures.0 c.if-not-is_ascending.false in
    let each : AllByRecursion (λ y. 0 < times y (x ∷ own)) moved = all_seen_at_end (λ y. 0 < times y (x ∷ own)) moved c.loop-one.one-index c.loop-one-test.false c.loop-one.invariant in
    let within : IsWithin moved (x ∷ own) = within_if_each moved (x ∷ own) up each in (
      λ less. record { ascending = up; within = within; few_stay = omega (arith, stay_counted own moved x within, ltb-true (length own) (c.args.k + length moved) less) },
      λ may. lt-ltb (length own) (c.args.k + length moved) (omega (arith, stay_counted own moved x within, may.few_stay)),
    )
