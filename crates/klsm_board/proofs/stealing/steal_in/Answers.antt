use Rattle.std.proofs.Common.{◌≡◌, ◌+◌, ◌∙◌, ◌∷◌, [], List, ap, subst, sym}
use Rattle.atomic_table.specs.Table.{rest}
use Rattle.klsm_run.specs.declared.item.Item.{Item}
use Rattle.klsm_run.specs.Content.{ShareNone}
use Rattle.klsm_parts.specs.Stealing.{MaySteal, own_after_steal, victim_after_steal}
use Rattle.klsm_board.specs.Seats.{Carries}
use Rattle.klsm_board.specs.Stealing.{stolen}
use Rattle.klsm_board.proofs.lemmas.seats.CarryLemmas.{first_of, first_here}
use Rattle.klsm_board.proofs.lemmas.seats.TurnLemmas.{as_rest}
use Rattle.klsm_board.proofs.lemmas.seats.LendLemmas.{first_slot}
use Rattle.klsm_board.proofs.lemmas.seats.StealLemmas.{turned_two, second_lent, vacant_again, two_left}
use Rattle.klsm_board.proofs.lemmas.calls.TestLemmas.{either_way}
use Rattle.klsm_board.proofs.stealing.steal_in.Goals as goal

pub exchange-victim-requires : goal.exchange-victim-requires
exchange-victim-requires g c =
    let content = g.S.Holding.content in let suits = g.S.Holding.suits in
    let m = c.args.table.now.key in let t = c.args.thread in let me = c.args.seat.now.me in let p = c.args.lock in
    let k = c.requires.carries in
    let carries : Carries content suits m t ((p, k.1) ∷ (t + 1, k.2) ∷ []) me = subst (λ z. Carries content suits m t ((z, k.1) ∷ (t + 1, k.2) ∷ []) me) (sym k.3) k.4 in
    let f = first_of content suits m t p k.1 ((t + 1, k.2) ∷ []) me.1 carries.contents_are carries.suited in
    (c.requires.seat.0, (f.slot, as_rest me.1 f.behind (p, f.slot) f.slots_are))

pub slot_mut-requires : goal.slot_mut-requires
slot_mut-requires g c =
    let content = g.S.Holding.content in let suits = g.S.Holding.suits in
    let m = c.args.table.now.key in let t = c.args.thread in let me = c.args.seat.now.me in let p = c.args.lock in
    let k = c.requires.carries in
    let carries : Carries content suits m t ((p, k.1) ∷ (t + 1, k.2) ∷ []) me = subst (λ z. Carries content suits m t ((z, k.1) ∷ (t + 1, k.2) ∷ []) me) (sym k.3) k.4 in
    let ex = c.exchange-victim.ensures in let tu = c.turn.ensures in
    let here = turned_two content suits m t p (t + 1) k.1 k.2 me c.exchange-victim.new.seat.me c.turn.new.self.me c.vacant.result carries (ap (λ z. z.1) ex.3) (ap (λ z. z.1) tu.2) in
    (tu.0 ∙ (ex.0 ∙ c.requires.seat.0), (here.second, here.lendable))

pub steal_where_gains-moved-requires : goal.steal_where_gains-moved-requires
steal_where_gains-moved-requires g c =
    let content = g.S.Holding.content in let suits = g.S.Holding.suits in
    let m = c.args.table.now.key in let t = c.args.thread in let me = c.args.seat.now.me in let p = c.args.lock in
    let k = c.requires.carries in
    let carries : Carries content suits m t ((p, k.1) ∷ (t + 1, k.2) ∷ []) me = subst (λ z. Carries content suits m t ((z, k.1) ∷ (t + 1, k.2) ∷ []) me) (sym k.3) k.4 in
    let ex = c.exchange-victim.ensures in let tu = c.turn.ensures in
    let here = turned_two content suits m t p (t + 1) k.1 k.2 me c.exchange-victim.new.seat.me c.turn.new.self.me c.vacant.result carries (ap (λ z. z.1) ex.3) (ap (λ z. z.1) tu.2) in
    let own = second_lent content suits m t p (t + 1) k.1 k.2 c.turn.new.self.me.1 c.vacant.result c.slot_mut.result.now here c.slot_mut.ensures.value in
    let victim = first_here content suits m t p k.1 ((t + 1, k.2) ∷ []) me.1 (rest me.1) c.exchange-victim.result carries.contents_are carries.suited ex.2 in
    record {
      sized = c.requires.sized;
      parts = (m.k, t, k.0, own.1, subst (λ z. suits m.k z c.exchange-victim.result) k.3 victim.1);
      apart = subst (λ (z : List Item × List Item). ShareNone z.0 z.1) (λ i. (sym own.0 i, sym victim.0 i)) k.5;
    }

pub exchange-requires : goal.exchange-requires
exchange-requires g c =
    let content = g.S.Holding.content in let suits = g.S.Holding.suits in
    let m = c.args.table.now.key in let t = c.args.thread in let me = c.args.seat.now.me in let p = c.args.lock in
    let k = c.requires.carries in
    let carries : Carries content suits m t ((p, k.1) ∷ (t + 1, k.2) ∷ []) me = subst (λ z. Carries content suits m t ((z, k.1) ∷ (t + 1, k.2) ∷ []) me) (sym k.3) k.4 in
    let ex = c.exchange-victim.ensures in let tu = c.turn.ensures in
    let here = turned_two content suits m t p (t + 1) k.1 k.2 me c.exchange-victim.new.seat.me c.turn.new.self.me c.vacant.result carries (ap (λ z. z.1) ex.3) (ap (λ z. z.1) tu.2) in
    let tu2 = c.turn-2.ensures in
    (tu2.0 ∙ (tu.0 ∙ (ex.0 ∙ c.requires.seat.0)), (c.vacant.result, vacant_again content suits m t p (t + 1) k.1 k.2 c.turn.new.self.me c.turn-2.new.self.me c.vacant.result c.steal_where_gains-moved.new.own here (ap (λ z. z.1) tu2.2)))

pub discard-requires : goal.discard-requires
discard-requires g c =
    let content = g.S.Holding.content in let suits = g.S.Holding.suits in
    let m = c.args.table.now.key in let t = c.args.thread in let me = c.args.seat.now.me in let p = c.args.lock in
    let k = c.requires.carries in
    let carries : Carries content suits m t ((p, k.1) ∷ (t + 1, k.2) ∷ []) me = subst (λ z. Carries content suits m t ((z, k.1) ∷ (t + 1, k.2) ∷ []) me) (sym k.3) k.4 in
    let ex = c.exchange-victim.ensures in let tu = c.turn.ensures in
    let here = turned_two content suits m t p (t + 1) k.1 k.2 me c.exchange-victim.new.seat.me c.turn.new.self.me c.vacant.result carries (ap (λ z. z.1) ex.3) (ap (λ z. z.1) tu.2) in
    let tu2 = c.turn-2.ensures in
    let first = vacant_again content suits m t p (t + 1) k.1 k.2 c.turn.new.self.me c.turn-2.new.self.me c.vacant.result c.steal_where_gains-moved.new.own here (ap (λ z. z.1) tu2.2) in
    let same : c.vacant.result ≡ c.exchange.result = sym (ap (first_slot c.vacant.result) first) ∙ ap (first_slot c.vacant.result) c.exchange.ensures.2 in
    subst g.S.PartSlot.is_vacant same c.vacant.ensures

pub returns-clause-done : goal.returns-clause-done
returns-clause-done g c victim found own lock_is carries_by =
    let content = g.S.Holding.content in let suits = g.S.Holding.suits in
    let m = c.args.table.now.key in let t = c.args.thread in let me = c.args.seat.now.me in let p = c.args.lock in
    let carries : Carries content suits m t ((p, found) ∷ (t + 1, own) ∷ []) me = subst (λ z. Carries content suits m t ((z, found) ∷ (t + 1, own) ∷ []) me) (sym lock_is) carries_by in
    let ex = c.exchange-victim.ensures in let tu = c.turn.ensures in
    let here = turned_two content suits m t p (t + 1) found own me c.exchange-victim.new.seat.me c.turn.new.self.me c.vacant.result carries (ap (λ z. z.1) ex.3) (ap (λ z. z.1) tu.2) in
    let tu2 = c.turn-2.ensures in let ex2 = c.exchange.ensures in let answer = c.steal_where_gains-moved in
    let own_is = second_lent content suits m t p (t + 1) found own c.turn.new.self.me.1 c.vacant.result c.slot_mut.result.now here c.slot_mut.ensures.value in
    let victim_is = first_here content suits m t p found ((t + 1, own) ∷ []) me.1 (rest me.1) c.exchange-victim.result carries.contents_are carries.suited ex.2 in
    let own_kind = answer.ensures.kind m.k t own_is.1 in
    let victim_kind = subst (λ z. suits m.k z answer.new.victim) (sym lock_is) (answer.ensures.victim_kind m.k victim (subst (λ z. suits m.k z c.exchange-victim.result) lock_is victim_is.1)) in
    let same = ap (λ z. z.0) ex2.3 ∙ (ap (λ z. z.0) tu2.2 ∙ (ap (λ z. z.0) tu.2 ∙ ap (λ z. z.0) ex.3)) in
    let moved = stolen c.args.front c.args.most m.k own found in
    either_way answer.result _ _ _ _ (answer.ensures.done m.k t own_is.1)
    (λ did. (
      subst (λ (z : List Item × List Item). MaySteal m.k z.0 z.1 (stolen c.args.front c.args.most m.k z.0 z.1)) (λ i. (own_is.0 i, victim_is.0 i)) did.0,
      subst (λ z. Carries content suits m t ((z, victim_after_steal found moved) ∷ (t + 1, own_after_steal own moved) ∷ []) c.exchange.new.seat.me) lock_is
          (two_left content suits m t p (t + 1) found own (victim_after_steal found moved) (own_after_steal own moved) me c.turn.new.self.me c.turn-2.new.self.me c.exchange.new.seat.me c.vacant.result answer.new.own answer.new.victim carries here
          (ap (λ z. z.1) tu2.2) (ap (λ z. z.1) ex2.3) same
          (did.2 ∙ (λ i. victim_after_steal (victim_is.0 i) (stolen c.args.front c.args.most m.k (own_is.0 i) (victim_is.0 i)))) victim_kind
          (did.1 ∙ (λ i. own_after_steal (own_is.0 i) (stolen c.args.front c.args.most m.k (own_is.0 i) (victim_is.0 i)))) own_kind),
    ))
    (λ none. (
      subst (λ (z : List Item × List Item). stolen c.args.front c.args.most m.k z.0 z.1 ≡ []) (λ i. (own_is.0 i, victim_is.0 i)) none.0,
      subst (λ z. Carries content suits m t ((z, found) ∷ (t + 1, own) ∷ []) c.exchange.new.seat.me) lock_is
          (two_left content suits m t p (t + 1) found own found own me c.turn.new.self.me c.turn-2.new.self.me c.exchange.new.seat.me c.vacant.result answer.new.own answer.new.victim carries here
          (ap (λ z. z.1) tu2.2) (ap (λ z. z.1) ex2.3) same (none.2 ∙ victim_is.0) victim_kind (none.1 ∙ own_is.0) own_kind),
    ))
