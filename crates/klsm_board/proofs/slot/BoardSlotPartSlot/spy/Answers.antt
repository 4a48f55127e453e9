use Rattle.std.proofs.Common.{◌≡◌, sym, ap, ◌∙◌}
use Rattle.klsm_parts.specs.Parts.{PartState}
use Rattle.klsm_parts.proofs.FitLemmas.{local_fits}
use Rattle.klsm_board.specs.declared.slot.Slot.TheVariants.{Own}
use Rattle.klsm_board.proofs.lemmas.slots.KindLemmas.{own_content, own_k, keeps_own, no_copy, holds_own}
use Rattle.klsm_board.proofs.lemmas.slots.SpyLemmas.{has_spied}
use Rattle.klsm_board.proofs.slot.BoardSlotPartSlot.spy.Goals.{in_default-via-in-Own+in_default, in_default-via-in_default}
use Rattle.klsm_board.proofs.slot.BoardSlotPartSlot.spy.Goals as goal

pub spy-requires : goal.spy-requires
spy-requires g c =
    let own = c.get_mut-home.result.now in
    let victim = c.get_mut-other.result.now in
    let own_is : c.args.self.now ≡ Own own = c.in-Own-Own.is-0 ∙ ap Own (sym c.get_mut-home.ensures.value) in
    let victim_is : c.args.victim.now ≡ Own victim = c.in-Own-Own.is-1 ∙ ap Own (sym c.get_mut-other.ensures.value) in
    let parts = c.requires.parts in
    let same_k : own.part.k ≡ victim.part.k = own_k parts.0 _ c.args.self.now own own_is parts.3 ∙ sym (own_k parts.0 _ c.args.victim.now victim victim_is parts.4) in
    (local_fits _ c.requires.sized.0, (same_k, sym (own_content c.args.self.now own own_is) ∙ c.requires.empty))

pub returns-clause-done : goal.returns-clause-done
returns-clause-done g c =
    let own = c.get_mut-home.result.now in
    let victim = c.get_mut-other.result.now in
    let own_is : c.args.self.now ≡ Own own = c.in-Own-Own.is-0 ∙ ap Own (sym c.get_mut-home.ensures.value) in
    let victim_is : c.args.victim.now ≡ Own victim = c.in-Own-Own.is-1 ∙ ap Own (sym c.get_mut-other.ensures.value) in
    let outcome = c.spy.ensures in
    has_spied c.args.self.now c.args.victim.now own c.spy.new.own victim c.spy.new.victim own_is victim_is _ c.spy.result outcome.own outcome.count outcome.none outcome.unchanged outcome.event

pub returns-clause-kind : goal.returns-clause-kind
returns-clause-kind g c = λ k t.
    let own = c.get_mut-home.result.now in
    keeps_own c.args.self.now own c.spy.new.own c.forget.new.copy (no_copy _ _ c.forget.ensures) (c.in-Own-Own.is-0 ∙ ap Own (sym c.get_mut-home.ensures.value)) (ap (λ (part : PartState). part.k) c.spy.ensures.own) k _

pub returns-clause-victim_kind : goal.returns-clause-victim_kind
returns-clause-victim_kind g c = λ k t.
    let victim = c.get_mut-other.result.now in
    keeps_own c.args.victim.now victim c.spy.new.victim c.forget-in-Own-Own.new.copy (no_copy _ _ c.forget-in-Own-Own.ensures) (c.in-Own-Own.is-1 ∙ ap Own (sym c.get_mut-other.ensures.value)) (ap (λ (part : PartState). part.k) c.spy.ensures.victim) k _

pub unreachable-requires : goal.unreachable-requires
unreachable-requires g c =
    let parts = c.requires.parts in
    elim c.in_default.branch [
      | in_default-via-in-Own+in_default w ↦ holds_own parts.0 parts.2 c.args.victim.now parts.4 w.in_default.not-Own-1
      | in_default-via-in_default w ↦ holds_own parts.0 parts.1 c.args.self.now parts.3 w.in_default.not-Own-0
    ]

pub unreachable-unreachable : goal.unreachable-unreachable
unreachable-unreachable g c = c.unreachable.type_inv
