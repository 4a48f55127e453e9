use Rattle.std.proofs.Common.{◌≡◌, ◌+◌, [], ◌∷◌, ◌∙◌, refl, subst, IfSome}
use Rattle.atomic_table.specs.Table.{rest}
use Rattle.klsm_board.proofs.lemmas.seats.CarryLemmas.{first_of, first_here, first_changed}
use Rattle.klsm_board.proofs.lemmas.seats.TurnLemmas.{as_rest}
use Rattle.klsm_board.proofs.lemmas.hands.CommitLemmas.{has_still}
use Rattle.klsm_board.specs.Seats.{own_in_hand}
use Rattle.klsm_board.proofs.sharing.copy_own.Goals as goal

pub slot_mut-requires : goal.slot_mut-requires
slot_mut-requires g c =
    let k = c.requires.has in let carries = k.1.carries in let t = c.args.thread in
    let f = first_of g.S.Holding.content g.S.Holding.suits c.args.table.now.key t (t + 1) k.0 [] c.args.seat.now.me.1 carries.contents_are carries.suited in
    (c.requires.seat.0, (f.slot, as_rest c.args.seat.now.me.1 f.behind (t + 1, f.slot) f.slots_are))

pub returns-clause-copied : goal.returns-clause-copied
returns-clause-copied g c own has =
    let m = c.args.table.now.key in let t = c.args.thread in let me = c.args.seat.now.me in
    let content = g.S.Holding.content in let suits = g.S.Holding.suits in let carries = has.carries in
    let y = c.slot_mut.result.now in
    let h = first_here content suits m t (t + 1) own [] me.1 (rest me.1) y carries.contents_are carries.suited c.slot_mut.ensures.value in
    let z = c.prepare_sharing.new.self in
    let now = first_changed content suits m t (t + 1) own own [] me z carries (c.prepare_sharing.ensures.same ∙ h.0) (c.prepare_sharing.ensures.kind m.k t h.1) in (
      subst (λ z. IfSome c.prepare_sharing.result (λ run. run ≡ z)) h.0 c.prepare_sharing.ensures.copy,
      has_still content suits m t (own_in_hand t own) me (me.0, (t + 1, z) ∷ rest me.1) has refl now,
      refl,
    )
