use Rattle.std.proofs.Common.{ap, ◌∙◌, refl}
use Rattle.klsm_schedules.specs.declared.step.Entry.TheVariants.{Committed}
use Rattle.klsm_board.specs.Steps.{gain}
use Rattle.klsm_board.specs.Seats.{contents}
use Rattle.klsm_board.proofs.lemmas.table.SeatLemmas.{out_of, as_carried, has_set, mine_set, set_others}
use Rattle.klsm_board.proofs.steps.commit_moving_by_front.Goals as goal

pub store_front-requires-clause-outcome : goal.store_front-requires-clause-outcome
store_front-requires-clause-outcome g c = (refl, refl)

pub store_front-requires-clause-view : goal.store_front-requires-clause-view
store_front-requires-clause-view g c = let out = c.requires.out.2 in let carries = out.carries in carries.acts

pub store_front-requires-clause-event : goal.store_front-requires-clause-event
store_front-requires-clause-event g c =
    let me = c.args.seat.now.me in let m = c.args.table.now.key in let t = c.args.thread in
    let q = c.requires.out in let e = g.T.Moving.event c.args.about.now q.0 in let out = q.2 in
    let all = contents g.S.Holding.content g.S.Holding.suits m t me.1 in
    let named = out_of g.S.Holding.content g.S.Holding.suits m t e q.1 all me out (as_carried g.S.Holding.content g.S.Holding.suits m t q.1 me out.carries) in
    (e, (q.0, refl, named), out.may, c.requires.room q.0, q.3)

pub returns-clause-has : goal.returns-clause-has
returns-clause-has g c = λ hand carries.
    let me = c.args.seat.now.me in let me' = c.store_front.new.seat.me in let m = c.args.table.now.key in let t = c.args.thread in
    let outcome = c.store_front.ensures.outcome in let q = outcome.1 in let e = g.T.Moving.event c.args.about.now q.0 in
    has_set g.S.Holding.content g.S.Holding.suits m t e hand me me' (out_of g.S.Holding.content g.S.Holding.suits m t e (contents g.S.Holding.content g.S.Holding.suits m t me.1) hand me q.2 carries) (c.requires.work q.0)
    (outcome.2 ∙ ap (λ z. (gain me.0 (Committed z), me.1)) q.1) outcome.3

pub returns-clause-list : goal.returns-clause-list
returns-clause-list g c = λ hand carries.
    let me = c.args.seat.now.me in let me' = c.store_front.new.seat.me in let m = c.args.table.now.key in let t = c.args.thread in
    let outcome = c.store_front.ensures.outcome in let q = outcome.1 in let e = g.T.Moving.event c.args.about.now q.0 in (
      q.0,
      out_of g.S.Holding.content g.S.Holding.suits m t e (contents g.S.Holding.content g.S.Holding.suits m t me.1) hand me q.2 carries,
      mine_set g.S.Holding.content g.S.Holding.suits m t e me me' carries.acts (outcome.2 ∙ ap (λ z. (gain me.0 (Committed z), me.1)) q.1),
    )

pub returns-clause-others : goal.returns-clause-others
returns-clause-others g c = let outcome = c.store_front.ensures.outcome in set_others g.S.Holding.content g.S.Holding.suits c.args.table.now.key c.args.thread outcome.0 c.args.seat.now.me c.store_front.new.seat.me outcome.2
