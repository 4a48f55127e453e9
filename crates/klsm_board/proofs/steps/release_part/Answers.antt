use Rattle.std.proofs.Common.{refl}
use Rattle.klsm_board.proofs.lemmas.table.SeatLemmas.{can_release, has_released, mine_released, released_others}
use Rattle.klsm_board.proofs.steps.release_part.Goals as goal

pub release-requires-clause-outcome : goal.release-requires-clause-outcome
release-requires-clause-outcome g c = (refl, refl)

pub release-requires-clause-view : goal.release-requires-clause-view
release-requires-clause-view g c = let has = c.requires.has.2 in let carries = has.carries in carries.acts

pub release-requires-clause-carried : goal.release-requires-clause-carried
release-requires-clause-carried g c = can_release g.S.Holding.content g.S.Holding.suits c.args.table.now.key c.args.thread c.args.part c.requires.has.0 c.requires.has.1 c.args.seat.now.me c.requires.has.2

pub returns-clause-released : goal.returns-clause-released
returns-clause-released g c = λ found hand has away. has_released g.S.Holding.content g.S.Holding.suits c.args.table.now.key c.args.thread c.args.part found hand c.args.seat.now.me c.release.new.seat.me has away c.release.ensures.outcome.0 c.release.ensures.outcome.1

pub returns-clause-list : goal.returns-clause-list
returns-clause-list g c =
    let has = c.requires.has.2 in let carries = has.carries in
    mine_released g.S.Holding.content g.S.Holding.suits c.args.table.now.key c.args.thread c.args.part c.args.seat.now.me c.release.new.seat.me carries.acts c.release.ensures.outcome.0

pub returns-clause-others : goal.returns-clause-others
returns-clause-others g c = released_others g.S.Holding.content g.S.Holding.suits c.args.table.now.key c.args.thread c.args.part c.args.seat.now.me c.release.new.seat.me c.release.ensures.outcome.0

pub release-requires-clause-marked : goal.release-requires-clause-marked
release-requires-clause-marked g c is = let has = c.requires.has.2 in has.marked
