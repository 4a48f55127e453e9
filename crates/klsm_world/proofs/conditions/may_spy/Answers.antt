use Rattle.std.proofs.Common.{◌≡◌, ◌≢◌, ◌∙◌, [], true, false, sym}
use Rattle.klsm_run.specs.Content.{IsAscending}
use Rattle.klsm_world.proofs.lemmas.lists.ConditionLemmas.{empty_if_no_length, some_if_length}
use Rattle.klsm_world.proofs.conditions.may_spy.Goals as goal
use Rattle.klsm_world.proofs.conditions.may_spy.Goals.{then-is_empty, else-is_empty, then-not-is_empty, else-not-is_empty}

pub returns-then-is_ascending : goal.returns-then-is_ascending
returns-then-is_ascending c = elim c.if-not-is_empty.branch [
  | then-not-is_empty w ↦ elim c.if-is_empty.branch [
    | then-is_empty v ↦
        let none : c.args.own.now ≡ [] = empty_if_no_length c.args.own.now v.if-is_empty.ensures in
        let some : c.args.moved.now ≢ [] = some_if_length c.args.moved.now v.is_empty-then-is_empty.result c.if-is_empty.value v.is_empty-then-is_empty.ensures v.value-is w.if-not-is_empty.true in
        let up : IsAscending c.args.moved.now = w.is_ascending.ensures.0 (sym w.value-is ∙ c.if-is_ascending.true) in (
          λ within. record { own_empty = none; some = some; ascending = up; within = c.are_within.ensures.0 within },
          λ may. c.are_within.ensures.1 may.within,
        )
    | else-is_empty v ↦ let bad : false ≡ true = sym v.if-is_empty.false ∙ (sym v.value-is ∙ w.if-not-is_empty.true) in cc
  ]
  | else-not-is_empty w ↦ let bad : false ≡ true = sym w.if-not-is_empty.false ∙ (sym w.value-is ∙ c.if-is_ascending.true) in cc
]
