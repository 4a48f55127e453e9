use Rattle.std.proofs.Common.{◌∙◌, List, length, ap, subst}
use Rattle.std.specs.Prelude.{slice_get, IfSome}
use Rattle.atomic_table.specs.Table.{rest}
use Rattle.klsm_run.specs.declared.item.Item.{Item}
use Rattle.klsm_parts.specs.Least.{IsLeast}
use Rattle.klsm_board.proofs.lemmas.seats.CarryLemmas.{first_of, first_here, first_changed}
use Rattle.klsm_board.proofs.lemmas.seats.TurnLemmas.{as_rest}
use Rattle.klsm_board.proofs.held.look.Goals as goal

pub slot_mut-slot-requires : goal.slot_mut-slot-requires
slot_mut-slot-requires g c =
    let k = c.requires.carries in let m = c.args.table.now.key in let p = c.args.lock in
    let f = first_of g.S.Holding.content g.S.Holding.suits m c.args.thread p k.0 k.1 c.args.seat.now.me.1 k.2.contents_are k.2.suited in
    (c.requires.seat, (f.slot, as_rest c.args.seat.now.me.1 f.behind (p, f.slot) f.slots_are))

pub returns-clause-looked : goal.returns-clause-looked
returns-clause-looked g c found hand carries =
    let m = c.args.table.now.key in let t = c.args.thread in let me = c.args.seat.now.me in let p = c.args.lock in
    let content = g.S.Holding.content in let suits = g.S.Holding.suits in
    let h = first_here content suits m t p found hand me.1 (rest me.1) c.slot_mut-slot.result.now carries.contents_are carries.suited c.slot_mut-slot.ensures.value in (
      first_changed content suits m t p found found hand me c.slot_mut-slot.result.now carries h.0 h.1,
      c.len.ensures ∙ ap (λ (z : List Item). length z) h.0,
      c.least.ensures.is ∙ ap (λ (z : List Item). slice_get z 0) h.0,
      subst (λ (z : List Item). IfSome c.least.result (λ x. IsLeast x z)) h.0 c.least.ensures.least,
    )
