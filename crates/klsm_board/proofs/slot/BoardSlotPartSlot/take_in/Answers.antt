use Rattle.std.proofs.Common.{◌≡◌, ◌≤◌, ◌∙◌, length, take, sym, ap, arith}
use Rattle.std.proofs.lemmas.List.{length-take-le}
use Rattle.klsm_parts.specs.Events.{own_after_refill}
use Rattle.klsm_parts.proofs.FitLemmas.{local_fits}
use Rattle.klsm_board.specs.Slots.{slot_arriving}
use Rattle.klsm_board.specs.declared.slot.Slot.TheVariants.{Own}
use Rattle.klsm_board.proofs.lemmas.slots.KindLemmas.{own_content, own_k, keeps_own, no_copy, holds_own, has_places}
use Rattle.klsm_board.proofs.lemmas.slots.RefillLemmas.{own_arriving, can_take_in}
use Rattle.klsm_board.proofs.slot.BoardSlotPartSlot.take_in.Goals as goal

pub slice_bounds-take_in-end : goal.slice_bounds-take_in-end
slice_bounds-take_in-end g c =
    let home = c.get_mut-home.result.now in
    let own_is : c.args.self.now ≡ Own home = c.in-Own.is ∙ ap Own (sym c.get_mut-home.ensures.value) in
    let k = c.requires.own in let there = has_places k.0 _ c.args.self.now home own_is k.3 in
    let fits : home.count ≤ length c.as_slice.result.now = omega (arith, there.0, there.1, c.as_slice.ensures.len) in
    sym (length-take-le home.count c.as_slice.result.now fits)

pub take_in-requires : goal.take_in-requires
take_in-requires g c =
    let home = c.get_mut-home.result.now in
    let own_is : c.args.self.now ≡ Own home = c.in-Own.is ∙ ap Own (sym c.get_mut-home.ensures.value) in
    let k = c.requires.own in let sized = c.requires.sized in
    let items_are : take home.count c.as_slice.result.now ≡ slot_arriving c.args.self.now = ap (take home.count) c.as_slice.ensures.value ∙ sym (own_arriving c.args.self.now home own_is) in
    let k_is = own_k k.0 _ c.args.self.now home own_is k.3 in
    (local_fits _ sized.0, (sized.0, can_take_in _ _ _ _ k.0 home.part.k k.2 (own_content c.args.self.now home own_is) items_are k_is k.4 c.requires.apart))

pub returns-clause-joined : goal.returns-clause-joined
returns-clause-joined g c =
    let home = c.get_mut-home.result.now in
    let own_is : c.args.self.now ≡ Own home = c.in-Own.is ∙ ap Own (sym c.get_mut-home.ensures.value) in
    let items_are : take home.count c.as_slice.result.now ≡ slot_arriving c.args.self.now = ap (take home.count) c.as_slice.ensures.value ∙ sym (own_arriving c.args.self.now home own_is) in
    c.take_in.ensures.items ∙ λ i. own_after_refill (sym (own_content c.args.self.now home own_is) i) (items_are i)

pub returns-clause-kind : goal.returns-clause-kind
returns-clause-kind g c = λ k t.
    let home = c.get_mut-home.result.now in
    keeps_own c.args.self.now home c.take_in.new.self c.forget.new.copy (no_copy _ _ c.forget.ensures) (c.in-Own.is ∙ ap Own (sym c.get_mut-home.ensures.value)) c.take_in.ensures.k k _

pub unreachable-requires : goal.unreachable-requires
unreachable-requires g c = holds_own c.requires.own.0 c.requires.own.1 c.args.self.now c.requires.own.3 c.in_default.not-Own

pub unreachable-unreachable : goal.unreachable-unreachable
unreachable-unreachable g c = c.unreachable.type_inv
