use Rattle.std.proofs.Common.{ap, ◌∙◌, refl}
use Rattle.klsm_schedules.specs.declared.step.Entry.TheVariants.{Committed}
use Rattle.klsm_board.specs.Steps.{gain}
use Rattle.klsm_board.proofs.steps.commit_by_front.Goals as goal

pub store_front-requires-clause-outcome : goal.store_front-requires-clause-outcome
store_front-requires-clause-outcome g c = (refl, refl)

pub store_front-requires-clause-event : goal.store_front-requires-clause-event
store_front-requires-clause-event g c = (c.args.event.now, refl, c.requires.may, c.requires.room, c.requires.sets)

pub returns-clause-same : goal.returns-clause-same
returns-clause-same g c =
    let me = c.args.seat.now.me in let outcome = c.store_front.ensures.outcome in let same = c.store_front.ensures.same in
    (same.0, same.1, outcome.2 ∙ ap (λ z. (gain me.0 (Committed z), me.1)) outcome.1)

pub returns-clause-reached : goal.returns-clause-reached
returns-clause-reached g c = let outcome = c.store_front.ensures.outcome in outcome.3
