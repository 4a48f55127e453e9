use Rattle.std.proofs.Common.{◌≡◌, ◌<◌, ◌∙◌, IfSome, List, length, ap, refl, subst, sym}
use Rattle.klsm_run.specs.declared.item.Item.{Item}
use Rattle.klsm_run.specs.Content.{ShareNone}
use Rattle.klsm_parts.specs.Events.{front_of}
use Rattle.klsm_parts.specs.Sharing.{MayShare, own_after_share, shared_after_share}
use Rattle.klsm_board.specs.Seats.{Carries, both_in_hand}
use Rattle.klsm_board.specs.Sharing.{HasRoomFor, LacksRoomFor}
use Rattle.klsm_board.proofs.lemmas.seats.LendLemmas.{lendable, lent_is, lends_changed}
use Rattle.klsm_board.proofs.lemmas.calls.SharingLemmas.{not_above, room_if_memory}
use Rattle.klsm_board.proofs.sharing.share_in.Goals as goal

pub lend_shared-shared-requires : goal.lend_shared-shared-requires
lend_shared-shared-requires g c = let k = c.requires.carries in record { seat = c.requires.seat.0; carries = (k.0, k.1, k.2) }

pub slot_mut-requires : goal.slot_mut-requires
slot_mut-requires g c =
    let k = c.requires.carries in let lent = c.lend_shared-shared.ensures in let lends = (lent.lent k.0 k.1 k.2).0 in
    (lent.same.0 ∙ c.requires.seat.0, (lends.slot, lendable g.S.Holding.content g.S.Holding.suits g.S.PartSlot.is_vacant c.args.table.now.key c.args.thread k.0 c.lend_shared-shared.new.seat.me lends))

pub share-answer-requires : goal.share-answer-requires
share-answer-requires g c =
    let m = c.args.table.now.key in let t = c.args.thread in let k = c.requires.carries in
    let lent = c.lend_shared-shared.ensures.lent k.0 k.1 k.2 in
    let own = lent_is g.S.Holding.content g.S.Holding.suits g.S.PartSlot.is_vacant m t k.0 c.lend_shared-shared.new.seat.me lent.0 c.slot_mut.result.now c.slot_mut.ensures.value in
    record {
      sized = c.requires.sized;
      parts = (m.k, t, own.1, lent.2);
      apart = subst (λ (z : List Item × List Item). ShareNone z.0 z.1) (λ i. (sym own.0 i, sym lent.1 i)) k.3;
      some = subst (λ (z : List Item). 0 < length z) (sym own.0) k.4;
      copy = subst (λ (z : List Item). IfSome c.args.copy (λ run. run ≡ z)) (sym own.0) k.5;
    }

-- what is lent changes, and the part in hand with it
pub return_shared-requires-clause-lends : goal.return_shared-requires-clause-lends
return_shared-requires-clause-lends g c =
    let content = g.S.Holding.content in let suits = g.S.Holding.suits in let is_vacant = g.S.PartSlot.is_vacant in
    let m = c.args.table.now.key in let t = c.args.thread in let me = c.lend_shared-shared.new.seat.me in let answer = c.share-answer in
    let k = c.requires.carries in let lent = c.lend_shared-shared.ensures.lent k.0 k.1 k.2 in
    let own = lent_is content suits is_vacant m t k.0 me lent.0 c.slot_mut.result.now c.slot_mut.ensures.value in
    (content answer.new.self, lends_changed content suits is_vacant m t k.0 me lent.0 (content answer.new.self) answer.new.self refl (answer.ensures.kind m.k t own.1))

pub return_shared-requires-clause-shared : goal.return_shared-requires-clause-shared
return_shared-requires-clause-shared g c =
    let m = c.args.table.now.key in let k = c.requires.carries in let lent = c.lend_shared-shared.ensures.lent k.0 k.1 k.2 in
    c.share-answer.ensures.shared_kind m.k lent.2

pub front-front-requires : goal.front-front-requires
front-front-requires g c =
    let m = c.args.table.now.key in let k = c.requires.carries in let lent = c.lend_shared-shared.ensures.lent k.0 k.1 k.2 in
    (m.k, c.share-answer.ensures.shared_kind m.k lent.2)

pub returns-in-Ok-clause-done : goal.returns-in-Ok-clause-done
returns-in-Ok-clause-done g c own shared carries =
    let content = g.S.Holding.content in let suits = g.S.Holding.suits in let is_vacant = g.S.PartSlot.is_vacant in
    let m = c.args.table.now.key in let t = c.args.thread in let me = c.lend_shared-shared.new.seat.me in let answer = c.share-answer in
    let lent = c.lend_shared-shared.ensures.lent own shared carries in
    let own_is = lent_is content suits is_vacant m t own me lent.0 c.slot_mut.result.now c.slot_mut.ensures.value in
    let did = c.in-Ok.ensures.done in
    let own' = own_after_share own own in
    let left = did.2 ∙ (λ i. shared_after_share (lent.1 i) (own_is.0 i)) in
    let lends = lends_changed content suits is_vacant m t own me lent.0 own' answer.new.self (did.1 ∙ (λ i. own_after_share (own_is.0 i) (own_is.0 i))) (answer.ensures.kind m.k t own_is.1) in (
      subst (λ (z : List Item). MayShare z z) own_is.0 did.0,
      subst (λ z. Carries content suits m t (both_in_hand t own' z) c.return_shared.new.seat.me) left (c.return_shared.ensures.back own' lends),
      subst (λ (z : List Item × List Item). HasRoomFor g.S.PartSlot.levels z.0 z.1) (λ i. (own_is.0 i, lent.1 i)) (not_above _ _ c.in-Ok.ensures.full.1),
      c.front-front.ensures ∙ ap front_of left,
    )

pub returns-in-Err-clause-unchanged : goal.returns-in-Err-clause-unchanged
returns-in-Err-clause-unchanged g c own shared carries =
    let content = g.S.Holding.content in let suits = g.S.Holding.suits in let is_vacant = g.S.PartSlot.is_vacant in
    let m = c.args.table.now.key in let t = c.args.thread in let me = c.lend_shared-shared.new.seat.me in let answer = c.share-answer in
    let lent = c.lend_shared-shared.ensures.lent own shared carries in
    let own_is = lent_is content suits is_vacant m t own me lent.0 c.slot_mut.result.now c.slot_mut.ensures.value in
    let same = c.in-Err.ensures.unchanged in
    let lends = lends_changed content suits is_vacant m t own me lent.0 own answer.new.self (same.0 ∙ own_is.0) (answer.ensures.kind m.k t own_is.1) in
    subst (λ z. Carries content suits m t (both_in_hand t own z) c.return_shared.new.seat.me) (same.1 ∙ lent.1) (c.return_shared.ensures.back own lends)

pub returns-in-Err-clause-full : goal.returns-in-Err-clause-full
returns-in-Err-clause-full g c is own shared carries =
    let content = g.S.Holding.content in let suits = g.S.Holding.suits in let is_vacant = g.S.PartSlot.is_vacant in
    let m = c.args.table.now.key in let t = c.args.thread in let me = c.lend_shared-shared.new.seat.me in
    let lent = c.lend_shared-shared.ensures.lent own shared carries in
    let own_is = lent_is content suits is_vacant m t own me lent.0 c.slot_mut.result.now c.slot_mut.ensures.value in
    subst (λ (z : List Item × List Item). LacksRoomFor g.S.PartSlot.levels z.0 z.1) (λ i. (own_is.0 i, lent.1 i)) (c.in-Err.ensures.full.0 is)

pub returns-in-Err-clause-memory : goal.returns-in-Err-clause-memory
returns-in-Err-clause-memory g c is own shared carries =
    let content = g.S.Holding.content in let suits = g.S.Holding.suits in let is_vacant = g.S.PartSlot.is_vacant in
    let m = c.args.table.now.key in let t = c.args.thread in let me = c.lend_shared-shared.new.seat.me in
    let lent = c.lend_shared-shared.ensures.lent own shared carries in
    let own_is = lent_is content suits is_vacant m t own me lent.0 c.slot_mut.result.now c.slot_mut.ensures.value in
    subst (λ (z : List Item × List Item). HasRoomFor g.S.PartSlot.levels z.0 z.1) (λ i. (own_is.0 i, lent.1 i)) (room_if_memory _ _ _ c.in-Err.ensures.full is)
