use Rattle.std.proofs.Common.{◌+◌, ◌∙◌, ◌∷◌, [], ap}
use Rattle.atomic_table.specs.Table.{rest}
use Rattle.klsm_board.proofs.lemmas.seats.CarryLemmas.{first_of, first_here}
use Rattle.klsm_board.proofs.lemmas.seats.TurnLemmas.{as_rest}
use Rattle.klsm_board.proofs.lemmas.seats.LendLemmas.{lends}
use Rattle.klsm_board.proofs.lending.lend_shared.Goals as goal

pub exchange-shared-requires : goal.exchange-shared-requires
exchange-shared-requires g c =
    let t = c.args.thread in let me = c.args.seat.now.me in let k = c.requires.carries in
    let f = first_of g.S.Holding.content g.S.Holding.suits c.args.table.now.key t 0 k.1 ((t + 1, k.0) ∷ []) me.1 k.2.contents_are k.2.suited in
    (c.requires.seat, (f.slot, as_rest me.1 f.behind (0, f.slot) f.slots_are))

pub returns-clause-lent : goal.returns-clause-lent
returns-clause-lent g c own shared carries =
    let content = g.S.Holding.content in let suits = g.S.Holding.suits in let m = c.args.table.now.key in let t = c.args.thread in let me = c.args.seat.now.me in
    let ex = c.exchange-shared.ensures in let tu = c.turn.ensures in
    let shared_is = first_here content suits m t 0 shared ((t + 1, own) ∷ []) me.1 (rest me.1) c.exchange-shared.result carries.contents_are carries.suited ex.2 in (
      lends content suits g.S.PartSlot.is_vacant m t own shared me c.exchange-shared.new.seat.me c.turn.new.self.me c.vacant.result c.vacant.ensures carries (ap (λ z. z.1) ex.3) (ap (λ z. z.1) tu.2) (ap (λ z. z.0) tu.2 ∙ ap (λ z. z.0) ex.3),
      shared_is.0,
      shared_is.1,
    )
