use Rattle.std.proofs.Common.{refl}
use Rattle.klsm_schedules.specs.declared.step.Entry.TheVariants.{Looked}
use Rattle.klsm_board.proofs.lemmas.table.SeatLemmas.{has_noted, mine_noted, noted_others}
use Rattle.klsm_board.proofs.steps.see_front.Goals as goal

pub load_front_alone-requires-clause-outcome : goal.load_front_alone-requires-clause-outcome
load_front_alone-requires-clause-outcome g c = (refl, refl)

pub load_front_alone-requires-clause-view : goal.load_front_alone-requires-clause-view
load_front_alone-requires-clause-view g c = c.requires.view

pub returns-clause-others : goal.returns-clause-others
returns-clause-others g c =
    noted_others g.S.Holding.content g.S.Holding.suits c.args.table.now.key c.args.thread (Looked c.load_front_alone.result) c.args.seat.now.me c.load_front_alone.new.seat.me c.load_front_alone.ensures.outcome.0

pub returns-clause-still : goal.returns-clause-still
returns-clause-still g c hand stands =
    let outcome = c.load_front_alone.ensures.outcome in
    has_noted g.S.Holding.content g.S.Holding.suits c.args.table.now.key c.args.thread (Looked c.load_front_alone.result) hand c.args.seat.now.me c.load_front_alone.new.seat.me (λ _. refl) (λ _. refl) (λ _. refl) stands outcome.0 outcome.1

pub returns-clause-list : goal.returns-clause-list
returns-clause-list g c =
    mine_noted g.S.Holding.content g.S.Holding.suits c.args.table.now.key c.args.thread (Looked c.load_front_alone.result) c.args.seat.now.me c.load_front_alone.new.seat.me c.requires.view c.load_front_alone.ensures.outcome.0

pub returns-clause-known : goal.returns-clause-known
returns-clause-known g c = c.load_front_alone.ensures.outcome.2
