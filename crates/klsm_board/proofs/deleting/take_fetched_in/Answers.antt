use Rattle.std.proofs.Common.{◌+◌, ◌∙◌, [], List, subst, sym}
use Rattle.atomic_table.specs.Table.{rest}
use Rattle.klsm_run.specs.declared.item.Item.{Item}
use Rattle.klsm_run.specs.Content.{ShareNone}
use Rattle.klsm_parts.specs.Events.{MayRefill, own_after_refill}
use Rattle.klsm_board.specs.Seats.{last_arriving}
use Rattle.klsm_board.proofs.lemmas.seats.CarryLemmas.{first_of, first_here, first_changed, one_arriving}
use Rattle.klsm_board.proofs.lemmas.seats.TurnLemmas.{as_rest}
use Rattle.klsm_board.proofs.deleting.take_fetched_in.Goals as goal

pub slot_mut-requires : goal.slot_mut-requires
slot_mut-requires g c =
    let k = c.requires.carries in let m = c.args.table.now.key in let t = c.args.thread in let me = c.args.seat.now.me in let carries = k.2 in
    let f = first_of g.S.Holding.content g.S.Holding.suits m t (t + 1) k.0 [] me.1 carries.contents_are carries.suited in
    (c.requires.seat.0, (f.slot, as_rest me.1 f.behind (t + 1, f.slot) f.slots_are))

pub take_in-requires : goal.take_in-requires
take_in-requires g c =
    let content = g.S.Holding.content in let suits = g.S.Holding.suits in let arriving = g.S.Holding.arriving in
    let k = c.requires.carries in let m = c.args.table.now.key in let t = c.args.thread in let me = c.args.seat.now.me in let carries = k.2 in
    let slot = c.slot_mut.result.now in let value = c.slot_mut.ensures.value in
    let h = first_here content suits m t (t + 1) k.0 [] me.1 (rest me.1) slot carries.contents_are carries.suited value in
    let due = one_arriving content suits m t arriving (t + 1) k.0 me.1 slot carries.contents_are carries.suited value in
    record {
      sized = c.requires.sized;
      own = (m.k, t, k.1, h.1, subst (λ (z : List Item × List Item). MayRefill m.k z.0 k.1 z.1) (λ i. (sym h.0 i, due i)) k.3);
      apart = subst (λ (z : List Item × List Item). ShareNone z.0 z.1) (λ i. (sym h.0 i, due i)) k.4;
    }

pub returns-clause-joined : goal.returns-clause-joined
returns-clause-joined g c own carries =
    let content = g.S.Holding.content in let suits = g.S.Holding.suits in let arriving = g.S.Holding.arriving in
    let m = c.args.table.now.key in let t = c.args.thread in let me = c.args.seat.now.me in
    let slot = c.slot_mut.result.now in let value = c.slot_mut.ensures.value in
    let h = first_here content suits m t (t + 1) own [] me.1 (rest me.1) slot carries.contents_are carries.suited value in
    let due = one_arriving content suits m t arriving (t + 1) own me.1 slot carries.contents_are carries.suited value in
    first_changed content suits m t (t + 1) own (own_after_refill own (last_arriving arriving me.1)) [] me c.take_in.new.self carries
    (c.take_in.ensures.joined ∙ λ i. own_after_refill (h.0 i) (sym due i)) (c.take_in.ensures.kind m.k t h.1)
