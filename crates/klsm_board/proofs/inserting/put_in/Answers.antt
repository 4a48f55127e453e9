use Rattle.std.proofs.Common.{◌+◌, ◌∙◌, [], List, length, ap, subst, sym}
use Rattle.std.specs.List.{Contains}
use Rattle.atomic_table.specs.Table.{rest}
use Rattle.klsm_run.specs.declared.item.Item.{Item}
use Rattle.klsm_parts.specs.Events.{MayPut, own_after_put}
use Rattle.klsm_board.proofs.lemmas.seats.CarryLemmas.{first_of, first_here, first_changed}
use Rattle.klsm_board.proofs.lemmas.seats.TurnLemmas.{as_rest}
use Rattle.klsm_board.proofs.lemmas.calls.TestLemmas.{either_way}
use Rattle.klsm_board.proofs.inserting.put_in.Goals as goal

pub slot_mut-requires : goal.slot_mut-requires
slot_mut-requires g c =
    let k = c.requires.carries in let m = c.args.table.now.key in let t = c.args.thread in
    let f = first_of g.S.Holding.content g.S.Holding.suits m t (t + 1) k.0 [] c.args.seat.now.me.1 k.1.contents_are k.1.suited in
    (c.requires.seat.0, (f.slot, as_rest c.args.seat.now.me.1 f.behind (t + 1, f.slot) f.slots_are))

pub put-requires : goal.put-requires
put-requires g c =
    let k = c.requires.carries in let m = c.args.table.now.key in let t = c.args.thread in
    let h = first_here g.S.Holding.content g.S.Holding.suits m t (t + 1) k.0 [] c.args.seat.now.me.1 (rest c.args.seat.now.me.1) c.slot_mut.result.now k.1.contents_are k.1.suited c.slot_mut.ensures.value in
    record { sized = c.requires.sized; own = (m.k, t, h.1); new = λ within. k.2 (subst (λ c'. Contains c' c.args.item) h.0 within) }

pub returns-clause-done : goal.returns-clause-done
returns-clause-done g c own carries =
    let m = c.args.table.now.key in let t = c.args.thread in let me = c.args.seat.now.me in
    let content = g.S.Holding.content in let suits = g.S.Holding.suits in
    let h = first_here content suits m t (t + 1) own [] me.1 (rest me.1) c.slot_mut.result.now carries.contents_are carries.suited c.slot_mut.ensures.value in
    let outcome = c.put.ensures.done m.k t h.1 in let kind = c.put.ensures.kind m.k t h.1 in
    either_way c.put.result _ _ _ _ outcome
    (λ put. (subst (λ c'. MayPut m.k c') h.0 put.0, first_changed content suits m t (t + 1) own (own_after_put own c.args.item) [] me c.put.new.self carries (put.1 ∙ ap (λ c'. own_after_put c' c.args.item) h.0) kind))
    (λ full. (sym (ap (λ (c' : List Item). length c') h.0) ∙ full.0, first_changed content suits m t (t + 1) own own [] me c.put.new.self carries (full.1 ∙ h.0) kind))
