use Rattle.std.proofs.Common.{◌≡◌, ◌+◌, ◌∙◌, ◌∷◌, [], List, ap, subst, sym}
use Rattle.atomic_table.specs.Table.{rest}
use Rattle.klsm_run.specs.declared.item.Item.{Item}
use Rattle.klsm_parts.specs.Events.{MaySpy, own_after_spy, victim_after_spy}
use Rattle.klsm_board.specs.Seats.{Carries}
use Rattle.klsm_board.proofs.lemmas.seats.CarryLemmas.{first_of, first_here}
use Rattle.klsm_board.proofs.lemmas.seats.TurnLemmas.{as_rest}
use Rattle.klsm_board.proofs.lemmas.seats.LendLemmas.{first_slot}
use Rattle.klsm_board.proofs.lemmas.seats.SpyLemmas.{turned_three, third_lent, vacant_next, three_left}
use Rattle.klsm_board.proofs.lemmas.calls.TestLemmas.{either_way}
use Rattle.klsm_board.proofs.spying.spy_in.Goals as goal

pub exchange-victim-requires : goal.exchange-victim-requires
exchange-victim-requires g c =
    let content = g.S.Holding.content in let suits = g.S.Holding.suits in
    let m = c.args.table.now.key in let t = c.args.thread in let me = c.args.seat.now.me in let p = c.args.lock in
    let k = c.requires.carries in
    let carries : Carries content suits m t ((p, k.1) ∷ (0, k.2) ∷ (t + 1, []) ∷ []) me = subst (λ z. Carries content suits m t ((z, k.1) ∷ (0, k.2) ∷ (t + 1, []) ∷ []) me) (sym k.3) k.4 in
    let f = first_of content suits m t p k.1 ((0, k.2) ∷ (t + 1, []) ∷ []) me.1 carries.contents_are carries.suited in
    (c.requires.seat.0, (f.slot, as_rest me.1 f.behind (p, f.slot) f.slots_are))

pub slot_mut-requires : goal.slot_mut-requires
slot_mut-requires g c =
    let content = g.S.Holding.content in let suits = g.S.Holding.suits in
    let m = c.args.table.now.key in let t = c.args.thread in let me = c.args.seat.now.me in let p = c.args.lock in
    let k = c.requires.carries in
    let carries : Carries content suits m t ((p, k.1) ∷ (0, k.2) ∷ (t + 1, []) ∷ []) me = subst (λ z. Carries content suits m t ((z, k.1) ∷ (0, k.2) ∷ (t + 1, []) ∷ []) me) (sym k.3) k.4 in
    let ex = c.exchange-victim.ensures in let tu = c.turn.ensures in let tu2 = c.turn-2.ensures in
    let here = turned_three content suits m t p 0 (t + 1) k.1 k.2 [] me c.exchange-victim.new.seat.me c.turn.new.self.me c.turn-2.new.self.me c.vacant.result carries (ap (λ z. z.1) ex.3) (ap (λ z. z.1) tu.2) (ap (λ z. z.1) tu2.2) in
    (tu2.0 ∙ (tu.0 ∙ (ex.0 ∙ c.requires.seat.0)), (here.third, here.lendable))

pub spy-moved-requires : goal.spy-moved-requires
spy-moved-requires g c =
    let content = g.S.Holding.content in let suits = g.S.Holding.suits in
    let m = c.args.table.now.key in let t = c.args.thread in let me = c.args.seat.now.me in let p = c.args.lock in
    let k = c.requires.carries in
    let carries : Carries content suits m t ((p, k.1) ∷ (0, k.2) ∷ (t + 1, []) ∷ []) me = subst (λ z. Carries content suits m t ((z, k.1) ∷ (0, k.2) ∷ (t + 1, []) ∷ []) me) (sym k.3) k.4 in
    let ex = c.exchange-victim.ensures in let tu = c.turn.ensures in let tu2 = c.turn-2.ensures in
    let here = turned_three content suits m t p 0 (t + 1) k.1 k.2 [] me c.exchange-victim.new.seat.me c.turn.new.self.me c.turn-2.new.self.me c.vacant.result carries (ap (λ z. z.1) ex.3) (ap (λ z. z.1) tu.2) (ap (λ z. z.1) tu2.2) in
    let own = third_lent content suits m t p 0 (t + 1) k.1 k.2 [] c.turn-2.new.self.me.1 c.vacant.result c.slot_mut.result.now here c.slot_mut.ensures.value in
    let victim = first_here content suits m t p k.1 ((0, k.2) ∷ (t + 1, []) ∷ []) me.1 (rest me.1) c.exchange-victim.result carries.contents_are carries.suited ex.2 in
    record { sized = c.requires.sized; parts = (m.k, t, k.0, own.1, subst (λ z. suits m.k z c.exchange-victim.result) k.3 victim.1); empty = own.0 }

pub exchange-requires : goal.exchange-requires
exchange-requires g c =
    let content = g.S.Holding.content in let suits = g.S.Holding.suits in
    let m = c.args.table.now.key in let t = c.args.thread in let me = c.args.seat.now.me in let p = c.args.lock in
    let k = c.requires.carries in
    let carries : Carries content suits m t ((p, k.1) ∷ (0, k.2) ∷ (t + 1, []) ∷ []) me = subst (λ z. Carries content suits m t ((z, k.1) ∷ (0, k.2) ∷ (t + 1, []) ∷ []) me) (sym k.3) k.4 in
    let ex = c.exchange-victim.ensures in let tu = c.turn.ensures in let tu2 = c.turn-2.ensures in
    let here = turned_three content suits m t p 0 (t + 1) k.1 k.2 [] me c.exchange-victim.new.seat.me c.turn.new.self.me c.turn-2.new.self.me c.vacant.result carries (ap (λ z. z.1) ex.3) (ap (λ z. z.1) tu.2) (ap (λ z. z.1) tu2.2) in
    let tu3 = c.turn-3.ensures in
    (tu3.0 ∙ (tu2.0 ∙ (tu.0 ∙ (ex.0 ∙ c.requires.seat.0))), (c.vacant.result, vacant_next content suits m t p 0 (t + 1) k.1 k.2 [] c.turn-2.new.self.me c.turn-3.new.self.me c.vacant.result c.spy-moved.new.self here (ap (λ z. z.1) tu3.2)))

pub discard-requires : goal.discard-requires
discard-requires g c =
    let content = g.S.Holding.content in let suits = g.S.Holding.suits in
    let m = c.args.table.now.key in let t = c.args.thread in let me = c.args.seat.now.me in let p = c.args.lock in
    let k = c.requires.carries in
    let carries : Carries content suits m t ((p, k.1) ∷ (0, k.2) ∷ (t + 1, []) ∷ []) me = subst (λ z. Carries content suits m t ((z, k.1) ∷ (0, k.2) ∷ (t + 1, []) ∷ []) me) (sym k.3) k.4 in
    let ex = c.exchange-victim.ensures in let tu = c.turn.ensures in let tu2 = c.turn-2.ensures in
    let here = turned_three content suits m t p 0 (t + 1) k.1 k.2 [] me c.exchange-victim.new.seat.me c.turn.new.self.me c.turn-2.new.self.me c.vacant.result carries (ap (λ z. z.1) ex.3) (ap (λ z. z.1) tu.2) (ap (λ z. z.1) tu2.2) in
    let tu3 = c.turn-3.ensures in
    let first = vacant_next content suits m t p 0 (t + 1) k.1 k.2 [] c.turn-2.new.self.me c.turn-3.new.self.me c.vacant.result c.spy-moved.new.self here (ap (λ z. z.1) tu3.2) in
    let same : c.vacant.result ≡ c.exchange.result = sym (ap (first_slot c.vacant.result) first) ∙ ap (first_slot c.vacant.result) c.exchange.ensures.2 in
    subst g.S.PartSlot.is_vacant same c.vacant.ensures

pub returns-clause-done : goal.returns-clause-done
returns-clause-done g c victim found shared lock_is carries_by =
    let content = g.S.Holding.content in let suits = g.S.Holding.suits in
    let m = c.args.table.now.key in let t = c.args.thread in let me = c.args.seat.now.me in let p = c.args.lock in
    let carries : Carries content suits m t ((p, found) ∷ (0, shared) ∷ (t + 1, []) ∷ []) me = subst (λ z. Carries content suits m t ((z, found) ∷ (0, shared) ∷ (t + 1, []) ∷ []) me) (sym lock_is) carries_by in
    let ex = c.exchange-victim.ensures in let tu = c.turn.ensures in let tu2 = c.turn-2.ensures in
    let here = turned_three content suits m t p 0 (t + 1) found shared [] me c.exchange-victim.new.seat.me c.turn.new.self.me c.turn-2.new.self.me c.vacant.result carries (ap (λ z. z.1) ex.3) (ap (λ z. z.1) tu.2) (ap (λ z. z.1) tu2.2) in
    let tu3 = c.turn-3.ensures in let ex2 = c.exchange.ensures in let answer = c.spy-moved in
    let own_is = third_lent content suits m t p 0 (t + 1) found shared [] c.turn-2.new.self.me.1 c.vacant.result c.slot_mut.result.now here c.slot_mut.ensures.value in
    let victim_is = first_here content suits m t p found ((0, shared) ∷ (t + 1, []) ∷ []) me.1 (rest me.1) c.exchange-victim.result carries.contents_are carries.suited ex.2 in
    let own_kind = answer.ensures.kind m.k t own_is.1 in
    let victim_kind = subst (λ z. suits m.k z answer.new.victim) (sym lock_is) (answer.ensures.victim_kind m.k victim (subst (λ z. suits m.k z c.exchange-victim.result) lock_is victim_is.1)) in
    let same = ap (λ z. z.0) ex2.3 ∙ (ap (λ z. z.0) tu3.2 ∙ (ap (λ z. z.0) tu2.2 ∙ (ap (λ z. z.0) tu.2 ∙ ap (λ z. z.0) ex.3))) in
    either_way answer.result _ _ _ _ answer.ensures.done
    (λ spied. (
      spied.0,
      subst (λ (z : List Item × List Item). MaySpy z.0 z.1 spied.0) (λ i. (own_is.0 i, victim_is.0 i)) spied.1,
      subst (λ z. Carries content suits m t ((z, victim_after_spy found spied.0) ∷ (0, shared) ∷ (t + 1, own_after_spy spied.0) ∷ []) c.exchange.new.seat.me) lock_is
          (three_left content suits m t p 0 (t + 1) found shared [] (victim_after_spy found spied.0) (own_after_spy spied.0) me c.turn-2.new.self.me c.turn-3.new.self.me c.exchange.new.seat.me c.vacant.result answer.new.self answer.new.victim carries here
          (ap (λ z. z.1) tu3.2) (ap (λ z. z.1) ex2.3) same (spied.3 ∙ ap (λ z. victim_after_spy z spied.0) victim_is.0) victim_kind spied.2 own_kind),
    ))
    (λ none. (
      sym victim_is.0 ∙ none.0,
      subst (λ z. Carries content suits m t ((z, found) ∷ (0, shared) ∷ (t + 1, []) ∷ []) c.exchange.new.seat.me) lock_is
          (three_left content suits m t p 0 (t + 1) found shared [] found [] me c.turn-2.new.self.me c.turn-3.new.self.me c.exchange.new.seat.me c.vacant.result answer.new.self answer.new.victim carries here
          (ap (λ z. z.1) tu3.2) (ap (λ z. z.1) ex2.3) same (none.2 ∙ victim_is.0) victim_kind (none.1 ∙ own_is.0) own_kind),
    ))
