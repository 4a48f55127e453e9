use Rattle.std.proofs.Common.{◌∷◌, ap, ◌∙◌, refl}
use Rattle.atomic_table.specs.Table.{rest}
use Rattle.klsm_schedules.specs.declared.step.Entry.TheVariants.{Committed, Released}
use Rattle.klsm_board.specs.Steps.{gain}
use Rattle.klsm_board.proofs.lemmas.table.SeatLemmas.{can_commit, out_of, has_committed, mine_committed, committed_others}
use Rattle.klsm_board.proofs.steps.commit_event.Goals as goal

pub commit-requires-clause-outcome : goal.commit-requires-clause-outcome
commit-requires-clause-outcome g c = (refl, refl)

pub commit-requires-clause-view : goal.commit-requires-clause-view
commit-requires-clause-view g c = let out = c.requires.out.2 in let carries = out.carries in carries.acts

pub commit-requires-clause-event : goal.commit-requires-clause-event
commit-requires-clause-event g c =
    let q = c.requires.out in let out = q.2 in
    (c.args.event.now, refl, out.may, c.requires.room, c.requires.leaves, can_commit g.S.Holding.content g.S.Holding.suits c.args.table.now.key c.args.thread c.args.part q.0 c.args.event.now q.1 c.args.seat.now.me out, λ is. (out.marked, c.requires.work))

pub returns-clause-released : goal.returns-clause-released
returns-clause-released g c = λ left hand carries away.
    let me = c.args.seat.now.me in let me' = c.commit.new.seat.me in let p = c.args.part in
    let outcome = c.commit.ensures.outcome in let q = c.requires.out in let e = c.args.event.now in
    has_committed g.S.Holding.content g.S.Holding.suits c.args.table.now.key c.args.thread p left e hand me me' (out_of g.S.Holding.content g.S.Holding.suits c.args.table.now.key c.args.thread e ((p, q.0) ∷ q.1) ((p, left) ∷ hand) me q.2 carries) c.requires.work away
    (outcome.2 ∙ ap (λ z. (gain (gain me.0 (Committed z)) (Released p), rest me.1)) outcome.1) outcome.3

pub returns-clause-list : goal.returns-clause-list
returns-clause-list g c =
    let me = c.args.seat.now.me in let me' = c.commit.new.seat.me in let p = c.args.part in
    let outcome = c.commit.ensures.outcome in let out = c.requires.out.2 in let carries = out.carries in
    mine_committed g.S.Holding.content g.S.Holding.suits c.args.table.now.key c.args.thread p c.args.event.now me me' carries.acts (outcome.2 ∙ ap (λ z. (gain (gain me.0 (Committed z)) (Released p), rest me.1)) outcome.1)

pub returns-clause-others : goal.returns-clause-others
returns-clause-others g c = let outcome = c.commit.ensures.outcome in committed_others g.S.Holding.content g.S.Holding.suits c.args.table.now.key c.args.thread c.args.part outcome.0 c.args.seat.now.me c.commit.new.seat.me outcome.2
