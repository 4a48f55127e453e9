use Rattle.std.proofs.Common.{◌≡◌, IfSome, List, sym, ap, subst, ◌∙◌}
use Rattle.klsm_run.specs.declared.item.Item.{Item}
use Rattle.klsm_run.specs.Capacity.{heap_room}
use Rattle.klsm_run.proofs.SortedLemmas.{length_sorted}
use Rattle.klsm_parts.specs.Limit.{limit_of}
use Rattle.klsm_parts.specs.Parts.{PartState}
use Rattle.klsm_parts.proofs.FitLemmas.{local_fits, shared_fits}
use Rattle.klsm_board.specs.declared.slot.Slot.TheVariants.{Own, Common}
use Rattle.klsm_board.proofs.lemmas.slots.KindLemmas.{own_content, shared_content, apart_unsorted, keeps_own, keeps_shared, no_copy, holds_own, holds_shared}
use Rattle.klsm_board.proofs.lemmas.slots.SharingLemmas.{own_keeps_k, unchanged, has_counted, has_shared, lacks_room}
use Rattle.klsm_board.proofs.slot.BoardSlotPartSlot.share.Goals.{in_default-via-in-Own+in_default, in_default-via-in_default}
use Rattle.klsm_board.proofs.slot.BoardSlotPartSlot.share.Goals as goal

pub share_prepared-answer-requires : goal.share_prepared-answer-requires
share_prepared-answer-requires g c =
    let own = c.get_mut-home.result.now in
    let common = c.get_mut-common.result.now in
    let own_is : c.args.self.now ≡ Own own = c.in-Own-Common.is-0 ∙ ap Own (sym c.get_mut-home.ensures.value) in
    let common_is : c.args.shared.now ≡ Common common = c.in-Own-Common.is-1 ∙ ap Common (sym c.get_mut-common.ensures.value) in
    let apart = apart_unsorted _ _ _ _ (own_content c.args.self.now own own_is) (shared_content c.args.shared.now common common_is) c.requires.apart in
    let sized = c.requires.sized in
    let copy = subst (λ (z : List Item). IfSome c.args.copy (λ run. run ≡ z)) (own_content c.args.self.now own own_is) c.requires.copy in
    (local_fits _ sized.0, (shared_fits _ sized.1, (sized.0, (apart, copy))))

pub returns-clause-count : goal.returns-clause-count
returns-clause-count g c =
    let own = c.get_mut-home.result.now in
    let common = c.get_mut-common.result.now in
    let own_is : c.args.self.now ≡ Own own = c.in-Own-Common.is-0 ∙ ap Own (sym c.get_mut-home.ensures.value) in
    let common_is : c.args.shared.now ≡ Common common = c.in-Own-Common.is-1 ∙ ap Common (sym c.get_mut-common.ensures.value) in
    has_counted c.args.self.now c.args.shared.now own c.share_prepared-answer.new.own common c.share_prepared-answer.new.shared own_is common_is c.share_prepared-answer.result c.share_prepared-answer.ensures.count

pub returns-clause-done : goal.returns-clause-done
returns-clause-done g c =
    let own = c.get_mut-home.result.now in
    let common = c.get_mut-common.result.now in
    let own_is : c.args.self.now ≡ Own own = c.in-Own-Common.is-0 ∙ ap Own (sym c.get_mut-home.ensures.value) in
    let common_is : c.args.shared.now ≡ Common common = c.in-Own-Common.is-1 ∙ ap Common (sym c.get_mut-common.ensures.value) in
    rw (c.exchange.ensures) (has_shared c.args.self.now c.args.shared.now own c.share_prepared-answer.new.own common c.share_prepared-answer.new.shared own_is common_is _ c.share_prepared-answer.result c.requires.some c.share_prepared-answer.ensures.count c.share_prepared-answer.ensures.event)

pub returns-clause-full : goal.returns-clause-full
returns-clause-full g c =
    let own = c.get_mut-home.result.now in
    let common = c.get_mut-common.result.now in
    let own_is : c.args.self.now ≡ Own own = c.in-Own-Common.is-0 ∙ ap Own (sym c.get_mut-home.ensures.value) in
    let common_is : c.args.shared.now ≡ Common common = c.in-Own-Common.is-1 ∙ ap Common (sym c.get_mut-common.ensures.value) in
    lacks_room c.args.self.now c.args.shared.now own c.share_prepared-answer.new.own common c.share_prepared-answer.new.shared own_is common_is (limit_of g.row.LEVELS heap_room) _ _ (length_sorted _) (length_sorted _) c.share_prepared-answer.result c.share_prepared-answer.ensures.full

pub returns-clause-kind : goal.returns-clause-kind
returns-clause-kind g c = λ k t.
    let own = c.get_mut-home.result.now in
    let own_is : c.args.self.now ≡ Own own = c.in-Own-Common.is-0 ∙ ap Own (sym c.get_mut-home.ensures.value) in
    keeps_own c.args.self.now own c.share_prepared-answer.new.own c.forget.new.copy (no_copy _ _ c.forget.ensures) own_is (own_keeps_k own.part c.share_prepared-answer.new.own c.get_mut-common.result.now c.share_prepared-answer.new.shared c.share_prepared-answer.result c.share_prepared-answer.ensures.own c.share_prepared-answer.ensures.unchanged) k _

pub returns-clause-shared_kind : goal.returns-clause-shared_kind
returns-clause-shared_kind g c = λ k.
    let common = c.get_mut-common.result.now in
    let common_is : c.args.shared.now ≡ Common common = c.in-Own-Common.is-1 ∙ ap Common (sym c.get_mut-common.ensures.value) in
    keeps_shared c.args.shared.now common c.exchange.new.shared common_is (ap (λ (part : PartState). part.k) c.exchange.ensures ∙ c.share_prepared-answer.ensures.shared_k) k

pub returns-clause-unchanged : goal.returns-clause-unchanged
returns-clause-unchanged g c =
    let own = c.get_mut-home.result.now in
    let common = c.get_mut-common.result.now in
    let own_is : c.args.self.now ≡ Own own = c.in-Own-Common.is-0 ∙ ap Own (sym c.get_mut-home.ensures.value) in
    let common_is : c.args.shared.now ≡ Common common = c.in-Own-Common.is-1 ∙ ap Common (sym c.get_mut-common.ensures.value) in
    rw (c.exchange.ensures) (unchanged c.args.self.now c.args.shared.now own c.share_prepared-answer.new.own common c.share_prepared-answer.new.shared own_is common_is c.share_prepared-answer.result c.share_prepared-answer.ensures.unchanged)

pub unreachable-requires : goal.unreachable-requires
unreachable-requires g c =
    let parts = c.requires.parts in
    elim c.in_default.branch [
      | in_default-via-in-Own+in_default w ↦ holds_shared parts.0 c.args.shared.now parts.3 w.in_default.not-Common-1
      | in_default-via-in_default w ↦ holds_own parts.0 parts.1 c.args.self.now parts.2 w.in_default.not-Own-0
    ]

pub unreachable-unreachable : goal.unreachable-unreachable
unreachable-unreachable g c = c.unreachable.type_inv
