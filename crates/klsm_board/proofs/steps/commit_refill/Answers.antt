use Rattle.std.proofs.Common.{ap, ◌∙◌, refl, arith}
use Rattle.klsm_schedules.specs.declared.step.Entry.TheVariants.{Committed}
use Rattle.klsm_schedules.specs.declared.step.Event.TheVariants.{Refill}
use Rattle.klsm_board.specs.Seats.{last_arriving}
use Rattle.klsm_board.specs.Steps.{gain}
use Rattle.klsm_board.proofs.steps.commit_refill.Goals as goal

pub store_front-requires-clause-outcome : goal.store_front-requires-clause-outcome
store_front-requires-clause-outcome g c = (refl, refl)

pub store_front-requires-clause-event : goal.store_front-requires-clause-event
store_front-requires-clause-event g c =
    let me = c.args.seat.now.me in let moved = last_arriving g.S.Holding.arriving me.1 in
    (Refill moved, refl, c.requires.may, λ some. absurd (omega (arith, some)), c.requires.sets)

pub returns : goal.returns
returns g c =
    let me = c.args.seat.now.me in let outcome = c.store_front.ensures.outcome in let same = c.store_front.ensures.same in
    record { same = (same.0, same.1, outcome.2 ∙ ap (λ z. (gain me.0 (Committed z), me.1)) outcome.1) }
