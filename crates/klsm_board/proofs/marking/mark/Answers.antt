use Rattle.std.proofs.Common.{◌≡◌, ◌-◌, ◌≤◌, refl, ap, ◌∙◌, arith}
use Rattle.klsm_schedules.specs.OwnSteps.{found_in, no_key, own_part}
use Rattle.klsm_schedules.specs.declared.step.Entry.TheVariants.{Marked}
use Rattle.klsm_board.specs.Steps.{gain}
use Rattle.klsm_board.specs.Seats.{own_in_hand}
use Rattle.klsm_board.proofs.lemmas.hands.EventLemmas.{own_in_one}
use Rattle.klsm_board.proofs.lemmas.table.SeatLemmas.{has_marked, mine_noted, noted_others}
use Rattle.klsm_board.proofs.marking.mark.Goals as goal

pub store_mark-requires-clause-outcome : goal.store_mark-requires-clause-outcome
store_mark-requires-clause-outcome g c = (refl, refl)

pub store_mark-requires-clause-view : goal.store_mark-requires-clause-view
store_mark-requires-clause-view g c = let carries = (c.requires.carries).1 in carries.acts

pub store_mark-requires-clause-held : goal.store_mark-requires-clause-held
store_mark-requires-clause-held g c =
    let t = c.args.thread in let k = c.requires.carries in
    record { content = k.0; holds = ap (λ h. found_in h (own_part t)) k.2 ∙ own_in_one t k.0 }

-- the seat after it
pub returns-clause-has : goal.returns-clause-has
returns-clause-has g c own carries hand_is =
    let key = c.args.key in let me = c.args.seat.now.me in let outcome = c.store_mark.ensures.outcome in
    let fits : key ≤ no_key = omega arith in let twice : no_key - (no_key - key) ≡ key = omega (arith, fits) in
    has_marked g.S.Holding.content g.S.Holding.suits c.args.table.now.key c.args.thread key (own_in_hand c.args.thread own) me c.store_mark.new.seat.me carries hand_is
    (outcome.0 ∙ ap (λ z. (gain me.0 (Marked z), me.1)) twice) outcome.1

pub returns-clause-list : goal.returns-clause-list
returns-clause-list g c =
    let key = c.args.key in let me = c.args.seat.now.me in let outcome = c.store_mark.ensures.outcome in
    let fits : key ≤ no_key = omega arith in let twice : no_key - (no_key - key) ≡ key = omega (arith, fits) in
    let carries = (c.requires.carries).1 in
    mine_noted g.S.Holding.content g.S.Holding.suits c.args.table.now.key c.args.thread (Marked key) me c.store_mark.new.seat.me carries.acts (outcome.0 ∙ ap (λ z. (gain me.0 (Marked z), me.1)) twice)

pub returns-clause-others : goal.returns-clause-others
returns-clause-others g c =
    let key = c.args.key in
    noted_others g.S.Holding.content g.S.Holding.suits c.args.table.now.key c.args.thread (Marked (no_key - (no_key - key))) c.args.seat.now.me c.store_mark.new.seat.me c.store_mark.ensures.outcome.0
