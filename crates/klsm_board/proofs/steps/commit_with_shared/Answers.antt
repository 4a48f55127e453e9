use Rattle.std.proofs.Common.{ap, ◌∙◌, refl, arith}
use Rattle.atomic_table.specs.Table.{rest}
use Rattle.klsm_schedules.specs.declared.step.Entry.TheVariants.{Committed, Released}
use Rattle.klsm_board.specs.Steps.{gain}
use Rattle.klsm_board.specs.Seats.{both_in_hand, own_in_hand}
use Rattle.klsm_board.proofs.lemmas.hands.EventLemmas.{shared_not_in_one}
use Rattle.klsm_board.proofs.lemmas.table.SeatLemmas.{can_commit, out_of, carries_committed, mine_committed, committed_others}
use Rattle.klsm_board.proofs.steps.commit_with_shared.Goals as goal

pub commit-requires-clause-outcome : goal.commit-requires-clause-outcome
commit-requires-clause-outcome g c = (refl, refl)

pub commit-requires-clause-part : goal.commit-requires-clause-part
commit-requires-clause-part g c = omega arith

pub commit-requires-clause-view : goal.commit-requires-clause-view
commit-requires-clause-view g c = let out = c.requires.out.2 in let carries = out.carries in carries.acts

pub commit-requires-clause-event : goal.commit-requires-clause-event
commit-requires-clause-event g c =
    let q = c.requires.out in let out = q.2 in
    (c.args.event.now, refl, out.may, c.requires.room, c.requires.leaves, can_commit g.S.Holding.content g.S.Holding.suits c.args.table.now.key c.args.thread 0 q.1 c.args.event.now (own_in_hand c.args.thread q.0) c.args.seat.now.me out, λ is. absurd (omega (arith, is)))

pub returns-clause-released : goal.returns-clause-released
returns-clause-released g c = λ own shared carries.
    let me = c.args.seat.now.me in let me' = c.commit.new.seat.me in let t = c.args.thread in
    let outcome = c.commit.ensures.outcome in let q = c.requires.out in let e = c.args.event.now in
    carries_committed g.S.Holding.content g.S.Holding.suits c.args.table.now.key t 0 shared e (own_in_hand t own) me me' (out_of g.S.Holding.content g.S.Holding.suits c.args.table.now.key t e (both_in_hand t q.0 q.1) (both_in_hand t own shared) me q.2 carries) (shared_not_in_one t own)
    (outcome.2 ∙ ap (λ z. (gain (gain me.0 (Committed z)) (Released 0), rest me.1)) outcome.1)

pub returns-clause-list : goal.returns-clause-list
returns-clause-list g c =
    let me = c.args.seat.now.me in let me' = c.commit.new.seat.me in
    let outcome = c.commit.ensures.outcome in let out = c.requires.out.2 in let carries = out.carries in
    mine_committed g.S.Holding.content g.S.Holding.suits c.args.table.now.key c.args.thread 0 c.args.event.now me me' carries.acts (outcome.2 ∙ ap (λ z. (gain (gain me.0 (Committed z)) (Released 0), rest me.1)) outcome.1)

pub returns-clause-others : goal.returns-clause-others
returns-clause-others g c = let outcome = c.commit.ensures.outcome in committed_others g.S.Holding.content g.S.Holding.suits c.args.table.now.key c.args.thread 0 outcome.0 c.args.seat.now.me c.commit.new.seat.me outcome.2
