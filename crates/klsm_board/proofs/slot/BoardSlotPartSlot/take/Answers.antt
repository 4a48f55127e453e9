use Rattle.std.proofs.Common.{◌≡◌, sym, ap, ◌∙◌}
use Rattle.klsm_parts.proofs.FitLemmas.{local_fits, shared_fits}
use Rattle.klsm_board.specs.declared.slot.Slot.TheVariants.{Own, Common}
use Rattle.klsm_board.proofs.lemmas.slots.KindLemmas.{own_content, shared_content, own_k, shared_k, apart_unsorted, keeps_own, no_copy, keeps_shared, holds_own, holds_shared}
use Rattle.klsm_board.proofs.lemmas.slots.TakeLemmas.{taken, own_keeps_k, common_keeps_k}
use Rattle.klsm_board.proofs.slot.BoardSlotPartSlot.take.Goals.{in_default-via-in-Own+in_default, in_default-via-in_default}
use Rattle.klsm_board.proofs.slot.BoardSlotPartSlot.take.Goals as goal

pub take-requires : goal.take-requires
take-requires g c =
    let own = c.get_mut-home.result.now in
    let common = c.get_mut.result.now in
    let own_is : c.args.self.now ≡ Own own = c.in-Own-Common.is-0 ∙ ap Own (sym c.get_mut-home.ensures.value) in
    let common_is : c.args.shared.now ≡ Common common = c.in-Own-Common.is-1 ∙ ap Common (sym c.get_mut.ensures.value) in
    let parts = c.requires.parts in
    let same_k : own.part.k ≡ common.k = own_k parts.0 _ c.args.self.now own own_is parts.2 ∙ sym (shared_k parts.0 _ c.args.shared.now common common_is parts.3) in
    let apart = apart_unsorted _ _ _ _ (own_content c.args.self.now own own_is) (shared_content c.args.shared.now common common_is) c.requires.apart in
    (local_fits _ c.requires.sized.0, (shared_fits _ c.requires.sized.1, (same_k, apart)))

pub returns-clause-done : goal.returns-clause-done
returns-clause-done g c =
    let own = c.get_mut-home.result.now in
    let common = c.get_mut.result.now in
    let own_is : c.args.self.now ≡ Own own = c.in-Own-Common.is-0 ∙ ap Own (sym c.get_mut-home.ensures.value) in
    let common_is : c.args.shared.now ≡ Common common = c.in-Own-Common.is-1 ∙ ap Common (sym c.get_mut.ensures.value) in
    let parts = c.requires.parts in
    let same_k : own.part.k ≡ common.k = own_k parts.0 _ c.args.self.now own own_is parts.2 ∙ sym (shared_k parts.0 _ c.args.shared.now common common_is parts.3) in
    let outcome = c.take.ensures in
    taken g.P.Picker.may_pick c.args.picker.now c.take.new.picker c.args.owner c.args.self.now c.args.shared.now own common c.take.new.own c.take.new.shared own_is common_is same_k
    c.take.result outcome.unasked outcome.asked outcome.left outcome.event outcome.nothing

pub returns-clause-kind : goal.returns-clause-kind
returns-clause-kind g c = λ k t.
    let own = c.get_mut-home.result.now in
    let own_is : c.args.self.now ≡ Own own = c.in-Own-Common.is-0 ∙ ap Own (sym c.get_mut-home.ensures.value) in
    keeps_own c.args.self.now own c.take.new.own c.forget.new.copy (no_copy _ _ c.forget.ensures) own_is (own_keeps_k own.part c.take.new.own c.get_mut.result.now c.take.new.shared c.take.result c.take.ensures.left) k _

pub returns-clause-shared_kind : goal.returns-clause-shared_kind
returns-clause-shared_kind g c = λ k.
    let common = c.get_mut.result.now in
    let common_is : c.args.shared.now ≡ Common common = c.in-Own-Common.is-1 ∙ ap Common (sym c.get_mut.ensures.value) in
    keeps_shared c.args.shared.now common c.take.new.shared common_is (common_keeps_k c.get_mut-home.result.now.part c.take.new.own common c.take.new.shared c.take.result c.take.ensures.left) k

pub unreachable-requires : goal.unreachable-requires
unreachable-requires g c =
    let parts = c.requires.parts in
    elim c.in_default.branch [
      | in_default-via-in-Own+in_default w ↦ holds_shared parts.0 c.args.shared.now parts.3 w.in_default.not-Common-1
      | in_default-via-in_default w ↦ holds_own parts.0 parts.1 c.args.self.now parts.2 w.in_default.not-Own-0
    ]

pub unreachable-unreachable : goal.unreachable-unreachable
unreachable-unreachable g c = c.unreachable.type_inv
