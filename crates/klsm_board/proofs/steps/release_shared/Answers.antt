use Rattle.std.proofs.Common.{ap, ◌∙◌, refl, arith}
use Rattle.klsm_schedules.specs.OwnSteps.{found_in}
use Rattle.klsm_board.specs.Seats.{own_in_hand}
use Rattle.klsm_board.proofs.lemmas.hands.EventLemmas.{shared_in_both, shared_not_in_one}
use Rattle.klsm_board.proofs.lemmas.table.SeatLemmas.{can_let_go, released_carries, released_hand}
use Rattle.klsm_board.proofs.steps.release_shared.Goals as goal

pub release-requires-clause-outcome : goal.release-requires-clause-outcome
release-requires-clause-outcome g c = (refl, refl)

pub release-requires-clause-part : goal.release-requires-clause-part
release-requires-clause-part g c = omega arith

pub release-requires-clause-view : goal.release-requires-clause-view
release-requires-clause-view g c = let k = c.requires.carries in let carries = k.3 in carries.acts

pub release-requires-clause-carried : goal.release-requires-clause-carried
release-requires-clause-carried g c =
    let t = c.args.thread in let k = c.requires.carries in
    can_let_go g.S.Holding.content g.S.Holding.suits c.args.table.now.key t 0 k.2 (own_in_hand t k.0) c.args.seat.now.me k.3 (ap (λ h. found_in h 0) k.4 ∙ shared_in_both t k.1 k.2)

pub returns-clause-same : goal.returns-clause-same
returns-clause-same g c = let same = c.release.ensures.same in (same.0, same.1, c.release.ensures.outcome.0)

pub returns-clause-carries : goal.returns-clause-carries
returns-clause-carries g c own due shared carries hand_is =
    let content = g.S.Holding.content in let suits = g.S.Holding.suits in
    let m = c.args.table.now.key in let t = c.args.thread in let me = c.args.seat.now.me in let me' = c.release.new.seat.me in let is = c.release.ensures.outcome.0 in
    (released_carries content suits m t 0 shared (own_in_hand t own) me me' carries is, released_hand content suits m t 0 shared (own_in_hand t due) me me' carries.acts hand_is (shared_not_in_one t due) is)

pub release-requires-clause-marked : goal.release-requires-clause-marked
release-requires-clause-marked g c is = absurd (omega (arith, is))
