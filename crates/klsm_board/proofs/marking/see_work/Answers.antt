use Rattle.std.proofs.Common.{refl, ◌-◌}
use Rattle.klsm_schedules.specs.OwnSteps.{HoldsSome, no_key, own_part}
use Rattle.std.proofs.Common.{subst, sym}
use Rattle.klsm_schedules.specs.declared.step.Entry.TheVariants.{Saw}
use Rattle.klsm_board.proofs.lemmas.table.SeatLemmas.{has_noted, mine_noted, noted_others}
use Rattle.klsm_board.proofs.marking.see_work.Goals as goal

pub load_mark-requires-clause-outcome : goal.load_mark-requires-clause-outcome
load_mark-requires-clause-outcome g c = (refl, refl)

pub load_mark-requires-clause-view : goal.load_mark-requires-clause-view
load_mark-requires-clause-view g c = let has = c.requires.has.1 in let carries = has.carries in carries.acts

pub load_mark-requires-clause-held : goal.load_mark-requires-clause-held
load_mark-requires-clause-held g c =
    let has = c.requires.has.1 in subst (λ h. HoldsSome h (own_part c.args.other)) (sym has.hand_is) c.requires.has.2

pub load_mark-requires-clause-marked : goal.load_mark-requires-clause-marked
load_mark-requires-clause-marked g c = let has = c.requires.has.1 in has.marked

pub returns-clause-others : goal.returns-clause-others
returns-clause-others g c =
    noted_others g.S.Holding.content g.S.Holding.suits c.args.table.now.key c.args.thread (Saw c.args.other (no_key - c.load_mark.result)) c.args.seat.now.me c.load_mark.new.seat.me c.load_mark.ensures.outcome.0

pub returns-clause-still : goal.returns-clause-still
returns-clause-still g c hand stands =
    let outcome = c.load_mark.ensures.outcome in
    has_noted g.S.Holding.content g.S.Holding.suits c.args.table.now.key c.args.thread (Saw c.args.other (no_key - c.load_mark.result)) hand c.args.seat.now.me c.load_mark.new.seat.me (λ _. refl) (λ _. refl) (λ _. refl) stands outcome.0 outcome.1

pub returns-clause-list : goal.returns-clause-list
returns-clause-list g c =
    let has = c.requires.has.1 in let carries = has.carries in
    mine_noted g.S.Holding.content g.S.Holding.suits c.args.table.now.key c.args.thread (Saw c.args.other (no_key - c.load_mark.result)) c.args.seat.now.me c.load_mark.new.seat.me carries.acts c.load_mark.ensures.outcome.0
