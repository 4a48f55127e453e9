use Rattle.std.proofs.Common.{◌+◌, ◌∙◌, ap, refl}
use Rattle.klsm_schedules.specs.OwnSteps.{found_in}
use Rattle.klsm_board.proofs.lemmas.hands.EventLemmas.{own_in_one}
use Rattle.klsm_board.proofs.lemmas.calls.EarlyLemmas.{looked_others}
use Rattle.klsm_board.proofs.steps.look_at_front.Goals as goal

pub load_front-requires-clause-outcome : goal.load_front-requires-clause-outcome
load_front-requires-clause-outcome g c = (refl, refl, refl)

pub load_front-requires-clause-view : goal.load_front-requires-clause-view
load_front-requires-clause-view g c = let has = c.requires.has.1 in let carries = has.carries in carries.acts

pub load_front-requires-clause-least : goal.load_front-requires-clause-least
load_front-requires-clause-least g c =
    let has = c.requires.has.1 in let own = c.requires.has.0 in let t = c.args.thread in
    (own, ap (λ h. found_in h (t + 1)) has.hand_is ∙ own_in_one t own, c.requires.has.2)

pub returns-clause-others : goal.returns-clause-others
returns-clause-others g c = looked_others g.S.Holding.content g.S.Holding.suits c.args.table.now.key c.args.thread c.args.least c.load_front.result c.args.seat.now.me c.load_front.new.seat.me c.load_front.ensures.outcome
