use Rattle.std.proofs.Common.{◌≡◌, ◌∙◌, ap, List, refl, subst, sym}
use Rattle.klsm_run.specs.declared.item.Item.{Item}
use Rattle.klsm_run.specs.Content.{ShareNone}
use Rattle.klsm_parts.specs.Events.{MayTake, MayFindNothing, own_after_take}
use Rattle.klsm_board.specs.Choosing.{Chooses}
use Rattle.klsm_board.specs.Seats.{Carries, both_in_hand, last_arriving}
use Rattle.klsm_board.specs.TakingOut.{TakesTo}
use Rattle.klsm_board.proofs.lemmas.calls.TestLemmas.{either_option}
use Rattle.klsm_board.proofs.lemmas.seats.LendLemmas.{lendable, lent_is, lends_changed}
use Rattle.klsm_board.proofs.deleting.take_out.Goals as goal

pub lend_shared-shared-requires : goal.lend_shared-shared-requires
lend_shared-shared-requires g c = let k = c.requires.carries in record { seat = c.requires.seat.0; carries = (k.0, k.1, k.2) }

pub slot_mut-own-requires : goal.slot_mut-own-requires
slot_mut-own-requires g c =
    let k = c.requires.carries in let lent = c.lend_shared-shared.ensures in let lends = (lent.lent k.0 k.1 k.2).0 in
    (lent.same.0 ∙ c.requires.seat.0, (lends.slot, lendable g.S.Holding.content g.S.Holding.suits g.S.PartSlot.is_vacant c.args.table.now.key c.args.thread k.0 c.lend_shared-shared.new.seat.me lends))

pub take_and_fetch-taken-requires-clause-parts : goal.take_and_fetch-taken-requires-clause-parts
take_and_fetch-taken-requires-clause-parts g c =
    let m = c.args.table.now.key in let t = c.args.thread in let k = c.requires.carries in
    let lent = c.lend_shared-shared.ensures.lent k.0 k.1 k.2 in
    let own = lent_is g.S.Holding.content g.S.Holding.suits g.S.PartSlot.is_vacant m t k.0 c.lend_shared-shared.new.seat.me lent.0 c.slot_mut-own.result.now c.slot_mut-own.ensures.value in
    (m.k, t, own.1, lent.2)

pub take_and_fetch-taken-requires-clause-apart : goal.take_and_fetch-taken-requires-clause-apart
take_and_fetch-taken-requires-clause-apart g c =
    let m = c.args.table.now.key in let t = c.args.thread in let k = c.requires.carries in
    let lent = c.lend_shared-shared.ensures.lent k.0 k.1 k.2 in
    let own = lent_is g.S.Holding.content g.S.Holding.suits g.S.PartSlot.is_vacant m t k.0 c.lend_shared-shared.new.seat.me lent.0 c.slot_mut-own.result.now c.slot_mut-own.ensures.value in
    subst (λ (z : List Item × List Item). ShareNone z.0 z.1) (λ i. (sym own.0 i, sym lent.1 i)) k.3

-- what is lent changes, and the part in hand with it
pub return_shared-requires-clause-lends : goal.return_shared-requires-clause-lends
return_shared-requires-clause-lends g c =
    let content = g.S.Holding.content in let suits = g.S.Holding.suits in let is_vacant = g.S.PartSlot.is_vacant in
    let m = c.args.table.now.key in let t = c.args.thread in let me = c.lend_shared-shared.new.seat.me in let taken = c.take_and_fetch-taken in
    let k = c.requires.carries in let lent = c.lend_shared-shared.ensures.lent k.0 k.1 k.2 in
    let own = lent_is content suits is_vacant m t k.0 me lent.0 c.slot_mut-own.result.now c.slot_mut-own.ensures.value in
    (content taken.new.own, lends_changed content suits is_vacant m t k.0 me lent.0 (content taken.new.own) taken.new.own refl (taken.ensures.kind m.k t own.1))

pub return_shared-requires-clause-shared : goal.return_shared-requires-clause-shared
return_shared-requires-clause-shared g c =
    let m = c.args.table.now.key in let k = c.requires.carries in let lent = c.lend_shared-shared.ensures.lent k.0 k.1 k.2 in
    c.take_and_fetch-taken.ensures.shared_kind m.k lent.2

pub returns-clause-done : goal.returns-clause-done
returns-clause-done g c own shared carries =
    let content = g.S.Holding.content in let suits = g.S.Holding.suits in let is_vacant = g.S.PartSlot.is_vacant in let arriving = g.S.Holding.arriving in
    let m = c.args.table.now.key in let t = c.args.thread in let me = c.lend_shared-shared.new.seat.me in let taken = c.take_and_fetch-taken in let after = c.return_shared.new.seat.me in
    let lent = c.lend_shared-shared.ensures.lent own shared carries in
    let own_is = lent_is content suits is_vacant m t own me lent.0 c.slot_mut-own.result.now c.slot_mut-own.ensures.value in
    let back : Carries content suits m t (both_in_hand t (content taken.new.own) (content taken.new.shared)) after =
    c.return_shared.ensures.back (content taken.new.own) (lends_changed content suits is_vacant m t own me lent.0 (content taken.new.own) taken.new.own refl (taken.ensures.kind m.k t own_is.1)) in
    let due : last_arriving arriving after.1 ≡ arriving taken.new.own = c.return_shared.ensures.arriving taken.new.own refl in
    either_option taken.result _ _ _ _ (taken.ensures.done m.k t own_is.1)
    (λ none. (
      subst (λ (z : List Item × List Item). MayFindNothing z.0 z.1) (λ i. (own_is.0 i, lent.1 i)) none.0,
      subst (λ (z : List Item × List Item). Carries content suits m t (both_in_hand t z.0 z.1) after) (λ i. ((none.1 ∙ own_is.0) i, (none.2 ∙ lent.1) i)) back,
      none.3,
    ))
    (λ found took. (
      subst (λ (z : List Item × List Item). MayTake m.k t z.0 z.1 found.0) (λ i. (own_is.0 i, lent.1 i)) took.0,
      subst (λ (z : List Item × List Item). Chooses g.P.Picker.may_pick c.args.picker.now taken.new.picker m.k t z.0 z.1 found.0) (λ i. (own_is.0 i, lent.1 i)) took.1,
      (
        content taken.new.shared,
        subst (λ z. Carries content suits m t (both_in_hand t z (content taken.new.shared)) after) (took.2 ∙ ap (λ z. own_after_take z found.0) own_is.0) back,
        subst (λ (z : List Item × List Item × List Item). TakesTo c.args.refill m.k z.0 z.1 found.0 found.1 (content taken.new.shared) z.2) (λ i. (own_is.0 i, lent.1 i, sym due i)) took.3,
      ),
    ))
