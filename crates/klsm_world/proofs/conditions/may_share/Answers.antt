use Rattle.std.proofs.Common.{◌≡◌, ◌≢◌, ◌∙◌, [], true, false, length, ap, eq-eqb}
use Rattle.klsm_run.specs.Content.{IsAscending}
use Rattle.klsm_world.proofs.conditions.may_share.Goals as goal

pub returns : goal.returns
returns c =
    let moved = c.args.moved.now in
    let some : moved ≢ [] = λ empty.
    let bad : false ≡ true = c.if-is_empty.ensures ∙ eq-eqb (length moved) 0 (ap length empty) in cc in
    let up : IsAscending moved = c.is_ascending.ensures.0 c.if-not-is_ascending.false in (
      λ within. record { some = some; ascending = up; within = c.are_within.ensures.0 within },
      λ may. c.are_within.ensures.1 may.within,
    )
