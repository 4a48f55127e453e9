use Rattle.std.proofs.Common.{◌≡◌, ◌∙◌, ap, sym, subst}
use Rattle.klsm_board.proofs.lemmas.seats.LendLemmas.{first_slot, vacant_first, returned, returned_arriving}
use Rattle.klsm_board.proofs.lending.return_shared.Goals as goal

pub exchange-requires : goal.exchange-requires
exchange-requires g c =
    let k = c.requires.lends in let tu = c.turn.ensures in let lends = k.1 in
    (tu.0 ∙ c.requires.seat, (lends.vacant, vacant_first g.S.Holding.content g.S.Holding.suits g.S.PartSlot.is_vacant c.args.table.now.key c.args.thread k.0 c.args.seat.now.me lends c.turn.new.self.me (ap (λ z. z.1) tu.2)))

pub discard-requires : goal.discard-requires
discard-requires g c =
    let k = c.requires.lends in let tu = c.turn.ensures in let lends = k.1 in
    let first = vacant_first g.S.Holding.content g.S.Holding.suits g.S.PartSlot.is_vacant c.args.table.now.key c.args.thread k.0 c.args.seat.now.me lends c.turn.new.self.me (ap (λ z. z.1) tu.2) in
    let same : lends.vacant ≡ c.exchange.result = sym (ap (first_slot lends.vacant) first) ∙ ap (first_slot lends.vacant) c.exchange.ensures.2 in
    subst g.S.PartSlot.is_vacant same lends.vacant_is

pub returns-clause-back : goal.returns-clause-back
returns-clause-back g c own lends =
    let tu = c.turn.ensures in let ex = c.exchange.ensures in
    returned g.S.Holding.content g.S.Holding.suits g.S.PartSlot.is_vacant c.args.table.now.key c.args.thread own c.args.seat.now.me lends c.turn.new.self.me c.exchange.new.seat.me c.args.shared
    (ap (λ z. z.1) tu.2) (ap (λ z. z.1) ex.3) (ap (λ z. z.0) ex.3 ∙ ap (λ z. z.0) tu.2) c.requires.shared

pub returns-clause-arriving : goal.returns-clause-arriving
returns-clause-arriving g c own value =
    let k = c.requires.lends in let tu = c.turn.ensures in let ex = c.exchange.ensures in
    returned_arriving g.S.Holding.content g.S.Holding.suits g.S.PartSlot.is_vacant c.args.table.now.key c.args.thread k.0 c.args.seat.now.me k.1 g.S.Holding.arriving c.turn.new.self.me c.exchange.new.seat.me c.args.shared own
    (ap (λ z. z.1) tu.2) (ap (λ z. z.1) ex.3) value
