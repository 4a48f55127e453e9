use Rattle.std.proofs.Common.{refl}
use Rattle.klsm_board.proofs.steps.turn_to.Goals as goal

pub load_turning-requires-clause-outcome : goal.load_turning-requires-clause-outcome
load_turning-requires-clause-outcome g c = (refl, refl)

pub returns-clause-turned : goal.returns-clause-turned
returns-clause-turned g c = c.load_turning.ensures.outcome.0

pub returns-clause-reached : goal.returns-clause-reached
returns-clause-reached g c = c.load_turning.ensures.outcome.1
