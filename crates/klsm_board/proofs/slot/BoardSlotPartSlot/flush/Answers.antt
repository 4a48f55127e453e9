use Rattle.std.proofs.Common.{◌≡◌, List, Option, IfSome, length, sym, ap, subst, ◌∙◌}
use Rattle.klsm_run.specs.declared.item.Item.{Item}
use Rattle.klsm_run.proofs.SortedLemmas.{length_sorted}
use Rattle.klsm_parts.specs.Parts.{PartState, items_in}
use Rattle.klsm_parts.specs.Flushing.{IsLargest}
use Rattle.klsm_parts.proofs.FitLemmas.{local_fits, shared_fits}
use Rattle.klsm_board.specs.declared.slot.Slot.TheVariants.{Own, Common}
use Rattle.klsm_board.proofs.lemmas.slots.KindLemmas.{own_content, shared_content, is_full, absent_unsorted, apart_unsorted, keeps_own, keeps_shared, no_copy, has_copy, holds_own, holds_shared}
use Rattle.klsm_board.proofs.lemmas.slots.FlushLemmas.{flushed, lacks_room, has_room, own_keeps_k, common_keeps_k, unchanged}
use Rattle.klsm_board.proofs.slot.BoardSlotPartSlot.flush.Goals.{in_default-via-in-Own+in_default, in_default-via-in_default}
use Rattle.klsm_board.proofs.slot.BoardSlotPartSlot.flush.Goals as goal

pub flush_prepared-answer-requires : goal.flush_prepared-answer-requires
flush_prepared-answer-requires g c =
    let own = c.get_mut-home.result.now in
    let common = c.get_mut-common.result.now in
    let own_is : c.args.self.now ≡ Own own = c.in-Own-Common.is-0 ∙ ap Own (sym c.get_mut-home.ensures.value) in
    let common_is : c.args.shared.now ≡ Common common = c.in-Own-Common.is-1 ∙ ap Common (sym c.get_mut-common.ensures.value) in
    let parts = c.requires.parts in
    let full : length (items_in own.part) ≡ own.part.k = is_full parts.0 _ c.args.self.now own own_is parts.2 parts.4 in
    let own_same = own_content c.args.self.now own own_is in
    let common_same = shared_content c.args.shared.now common common_is in
    let apart = apart_unsorted _ _ _ _ own_same common_same c.requires.apart in
    let new_to_own = absent_unsorted _ _ _ own_same c.requires.new_to_own in
    let new_to_shared = absent_unsorted _ _ _ common_same c.requires.new_to_shared in
    let copy = subst (λ (copy : Option (List Item)). IfSome copy (λ run. IsLargest run own.part.blocks)) (sym c.take-copy.ensures.value) (has_copy parts.0 _ c.args.self.now own own_is parts.2) in
    let sized = c.requires.sized in
    (local_fits _ sized.0, (shared_fits _ sized.1, (sized.0, (sym (length_sorted _) ∙ full, (apart, (new_to_own, (new_to_shared, copy)))))))

pub returns-clause-done : goal.returns-clause-done
returns-clause-done g c =
    let own = c.get_mut-home.result.now in
    let common = c.get_mut-common.result.now in
    let own_is : c.args.self.now ≡ Own own = c.in-Own-Common.is-0 ∙ ap Own (sym c.get_mut-home.ensures.value) in
    let common_is : c.args.shared.now ≡ Common common = c.in-Own-Common.is-1 ∙ ap Common (sym c.get_mut-common.ensures.value) in
    rw (c.exchange.ensures) (flushed g.row.LEVELS _ c.args.item c.args.self.now c.args.shared.now own common own_is common_is (length_sorted _)
    c.flush_prepared-answer.new.own c.flush_prepared-answer.new.shared c.flush_prepared-answer.result c.flush_prepared-answer.ensures.event c.flush_prepared-answer.ensures.full)

pub returns-clause-full : goal.returns-clause-full
returns-clause-full g c =
    let own = c.get_mut-home.result.now in
    let common = c.get_mut-common.result.now in
    let own_is : c.args.self.now ≡ Own own = c.in-Own-Common.is-0 ∙ ap Own (sym c.get_mut-home.ensures.value) in
    let common_is : c.args.shared.now ≡ Common common = c.in-Own-Common.is-1 ∙ ap Common (sym c.get_mut-common.ensures.value) in
    let parts = c.requires.parts in
    lacks_room g.row.LEVELS _ c.args.item c.args.self.now c.args.shared.now own common own_is common_is (length_sorted _)
    (is_full parts.0 _ c.args.self.now own own_is parts.2 parts.4) c.flush_prepared-answer.result c.flush_prepared-answer.ensures.full

pub returns-clause-memory : goal.returns-clause-memory
returns-clause-memory g c =
    let own = c.get_mut-home.result.now in
    let common = c.get_mut-common.result.now in
    let own_is : c.args.self.now ≡ Own own = c.in-Own-Common.is-0 ∙ ap Own (sym c.get_mut-home.ensures.value) in
    let common_is : c.args.shared.now ≡ Common common = c.in-Own-Common.is-1 ∙ ap Common (sym c.get_mut-common.ensures.value) in
    has_room g.row.LEVELS _ c.args.item c.args.self.now c.args.shared.now own common own_is common_is (length_sorted _)
    c.flush_prepared-answer.ensures.moves c.flush_prepared-answer.result c.flush_prepared-answer.ensures.full

pub returns-clause-kind : goal.returns-clause-kind
returns-clause-kind g c = λ k t.
    let own = c.get_mut-home.result.now in
    let own_is : c.args.self.now ≡ Own own = c.in-Own-Common.is-0 ∙ ap Own (sym c.get_mut-home.ensures.value) in
    keeps_own c.args.self.now own c.flush_prepared-answer.new.own c.take-copy.new.self (no_copy _ _ c.take-copy.ensures.after) own_is (own_keeps_k own.part c.flush_prepared-answer.new.own c.get_mut-common.result.now c.flush_prepared-answer.new.shared _ c.flush_prepared-answer.result c.flush_prepared-answer.ensures.own c.flush_prepared-answer.ensures.unchanged) k _

pub returns-clause-shared_kind : goal.returns-clause-shared_kind
returns-clause-shared_kind g c = λ k.
    let common = c.get_mut-common.result.now in
    let common_is : c.args.shared.now ≡ Common common = c.in-Own-Common.is-1 ∙ ap Common (sym c.get_mut-common.ensures.value) in
    keeps_shared c.args.shared.now common c.exchange.new.shared common_is (ap (λ (part : PartState). part.k) c.exchange.ensures ∙ common_keeps_k c.get_mut-home.result.now.part c.flush_prepared-answer.new.own common c.flush_prepared-answer.new.shared _ c.flush_prepared-answer.result c.flush_prepared-answer.ensures.shared c.flush_prepared-answer.ensures.unchanged) k

pub returns-clause-unchanged : goal.returns-clause-unchanged
returns-clause-unchanged g c =
    let own = c.get_mut-home.result.now in
    let common = c.get_mut-common.result.now in
    let own_is : c.args.self.now ≡ Own own = c.in-Own-Common.is-0 ∙ ap Own (sym c.get_mut-home.ensures.value) in
    let common_is : c.args.shared.now ≡ Common common = c.in-Own-Common.is-1 ∙ ap Common (sym c.get_mut-common.ensures.value) in
    rw (c.exchange.ensures) (unchanged c.args.self.now c.args.shared.now own c.flush_prepared-answer.new.own common c.flush_prepared-answer.new.shared own_is common_is c.flush_prepared-answer.result c.flush_prepared-answer.ensures.unchanged)

pub unreachable-requires : goal.unreachable-requires
unreachable-requires g c =
    let parts = c.requires.parts in
    elim c.in_default.branch [
      | in_default-via-in-Own+in_default w ↦ holds_shared parts.0 c.args.shared.now parts.3 w.in_default.not-Common-1
      | in_default-via-in_default w ↦ holds_own parts.0 parts.1 c.args.self.now parts.2 w.in_default.not-Own-0
    ]

pub unreachable-unreachable : goal.unreachable-unreachable
unreachable-unreachable g c = c.unreachable.type_inv
