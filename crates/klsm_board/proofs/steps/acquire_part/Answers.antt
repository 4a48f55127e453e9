use Rattle.std.proofs.Common.{refl, ap, ◌∙◌}
use Rattle.klsm_schedules.specs.OwnSteps.{found_in}
use Rattle.klsm_board.proofs.lemmas.table.SeatLemmas.{tried, tried_holder, tried_others}
use Rattle.klsm_board.proofs.steps.acquire_part.Goals as goal

pub acquire-requires-clause-outcome : goal.acquire-requires-clause-outcome
acquire-requires-clause-outcome g c = (refl, refl)

pub acquire-requires-clause-view : goal.acquire-requires-clause-view
acquire-requires-clause-view g c = let has = c.requires.has.1 in let carries = has.carries in carries.acts

pub acquire-requires-clause-away : goal.acquire-requires-clause-away
acquire-requires-clause-away g c = let has = c.requires.has.1 in ap (λ h. found_in h c.args.part) has.hand_is ∙ c.requires.has.2

pub returns-clause-outcome : goal.returns-clause-outcome
returns-clause-outcome g c = λ hand has. tried g.S.Holding.content g.S.Holding.suits c.args.table.now.key c.args.thread c.args.part c.args.table.now.table_id.slots c.acquire.result hand c.args.seat.now.me c.acquire.new.seat.me has c.acquire.ensures.outcome

pub returns-clause-others : goal.returns-clause-others
returns-clause-others g c = tried_others g.S.Holding.content g.S.Holding.suits c.args.table.now.key c.args.thread c.args.part c.args.table.now.table_id.slots c.acquire.result c.args.seat.now.me c.acquire.new.seat.me c.acquire.ensures.outcome

pub returns-clause-holder : goal.returns-clause-holder
returns-clause-holder g c = tried_holder g.S.Holding.content g.S.Holding.suits c.args.table.now.key c.args.thread c.args.part c.args.table.now.table_id.slots c.acquire.result c.args.seat.now.me c.acquire.new.seat.me c.acquire.ensures.outcome
