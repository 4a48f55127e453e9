use Rattle.std.proofs.Common.{◌≡◌, sym, ap, ◌∙◌, subst}
use Rattle.std.specs.List.{Contains}
use Rattle.klsm_parts.proofs.FitLemmas.{local_fits}
use Rattle.klsm_board.specs.declared.slot.Slot.TheVariants.{Own}
use Rattle.klsm_board.proofs.lemmas.slots.KindLemmas.{own_content, keeps_own, put_done, put_copy, holds_own}
use Rattle.klsm_board.proofs.slot.BoardSlotPartSlot.put.Goals as goal

pub put_where_room-is_put-requires : goal.put_where_room-is_put-requires
put_where_room-is_put-requires g c =
    let own = c.get_mut-home.result.now in
    let own_is : c.args.self.now ≡ Own own = c.in-Own.is ∙ ap Own (sym c.get_mut-home.ensures.value) in
    (local_fits _ c.requires.sized.0, (c.requires.sized.0, subst (λ content. Contains content c.args.item → ⊥) (own_content c.args.self.now own own_is) c.requires.new))

pub returns-clause-kind : goal.returns-clause-kind
returns-clause-kind g c = λ k t.
    let own = c.get_mut-home.result.now in
    keeps_own c.args.self.now own c.put_where_room-is_put.new.own c.renew.new.copy c.renew.ensures (c.in-Own.is ∙ ap Own (sym c.get_mut-home.ensures.value)) c.put_where_room-is_put.ensures.k k _

pub returns-clause-done : goal.returns-clause-done
returns-clause-done g c = λ k t.
    let own = c.get_mut-home.result.now in
    put_done c.args.self.now own c.put_where_room-is_put.new.own c.args.item c.put_where_room-is_put.result (c.in-Own.is ∙ ap Own (sym c.get_mut-home.ensures.value)) c.put_where_room-is_put.ensures.done k _

pub unreachable-requires : goal.unreachable-requires
unreachable-requires g c = holds_own c.requires.own.0 c.requires.own.1 c.args.self.now c.requires.own.2 c.in_default.not-Own

pub unreachable-unreachable : goal.unreachable-unreachable
unreachable-unreachable g c = c.unreachable.type_inv

pub renew-requires : goal.renew-requires
renew-requires g c =
    let own = c.get_mut-home.result.now in
    (local_fits _ c.requires.sized.0, (c.requires.sized.0, put_copy _ _ c.args.self.now own c.put_where_room-is_put.new.own c.put_where_room-is_put.result (c.in-Own.is ∙ ap Own (sym c.get_mut-home.ensures.value)) c.put_where_room-is_put.ensures.done c.requires.own.0 _ c.requires.own.2))
