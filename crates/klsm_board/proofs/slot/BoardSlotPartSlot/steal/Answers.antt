use Rattle.std.proofs.Common.{◌≡◌, List, sym, subst, ap, ◌∙◌}
use Rattle.klsm_run.specs.declared.item.Item.{Item}
use Rattle.klsm_run.specs.Content.{ShareNone}
use Rattle.klsm_parts.proofs.FitLemmas.{local_fits}
use Rattle.klsm_board.specs.declared.slot.Slot.TheVariants.{Own}
use Rattle.klsm_board.proofs.lemmas.slots.KindLemmas.{own_content, keeps_own, no_copy, holds_own}
use Rattle.klsm_board.proofs.lemmas.slots.StealLemmas.{has_stolen}
use Rattle.klsm_board.proofs.slot.BoardSlotPartSlot.steal.Goals.{in_default-via-in-Own+in_default, in_default-via-in_default}
use Rattle.klsm_board.proofs.slot.BoardSlotPartSlot.steal.Goals as goal

pub steal-requires : goal.steal-requires
steal-requires g c =
    let own = c.get_mut-home.result.now in
    let victim = c.get_mut-other.result.now in
    let own_is : c.args.self.now ≡ Own own = c.in-Own-Own.is-0 ∙ ap Own (sym c.get_mut-home.ensures.value) in
    let victim_is : c.args.victim.now ≡ Own victim = c.in-Own-Own.is-1 ∙ ap Own (sym c.get_mut-other.ensures.value) in
    let apart = subst (λ (z : List Item × List Item). ShareNone z.0 z.1) (λ i. (own_content c.args.self.now own own_is i, own_content c.args.victim.now victim victim_is i)) c.requires.apart in
    let sized = c.requires.sized in
    (local_fits _ sized.0, (sized.0, apart))

pub returns-clause-done : goal.returns-clause-done
returns-clause-done g c =
    let own = c.get_mut-home.result.now in
    let victim = c.get_mut-other.result.now in
    let own_is : c.args.self.now ≡ Own own = c.in-Own-Own.is-0 ∙ ap Own (sym c.get_mut-home.ensures.value) in
    let victim_is : c.args.victim.now ≡ Own victim = c.in-Own-Own.is-1 ∙ ap Own (sym c.get_mut-other.ensures.value) in
    let outcome = c.steal.ensures in
    has_stolen c.args.most c.args.self.now c.args.victim.now own c.steal.new.own victim c.steal.new.victim own_is victim_is c.steal.result outcome.count outcome.unchanged outcome.event

pub returns-clause-kind : goal.returns-clause-kind
returns-clause-kind g c = λ k t.
    let own = c.get_mut-home.result.now in
    keeps_own c.args.self.now own c.steal.new.own c.forget.new.copy (no_copy _ _ c.forget.ensures) (c.in-Own-Own.is-0 ∙ ap Own (sym c.get_mut-home.ensures.value)) c.steal.ensures.own_k k _

pub returns-clause-victim_kind : goal.returns-clause-victim_kind
returns-clause-victim_kind g c = λ k t.
    let victim = c.get_mut-other.result.now in
    keeps_own c.args.victim.now victim c.steal.new.victim c.forget-in-Own-Own.new.copy (no_copy _ _ c.forget-in-Own-Own.ensures) (c.in-Own-Own.is-1 ∙ ap Own (sym c.get_mut-other.ensures.value)) c.steal.ensures.victim_k k _

pub unreachable-requires : goal.unreachable-requires
unreachable-requires g c =
    let parts = c.requires.parts in
    elim c.in_default.branch [
      | in_default-via-in-Own+in_default w ↦ holds_own parts.0 parts.2 c.args.victim.now parts.4 w.in_default.not-Own-1
      | in_default-via-in_default w ↦ holds_own parts.0 parts.1 c.args.self.now parts.3 w.in_default.not-Own-0
    ]

pub unreachable-unreachable : goal.unreachable-unreachable
unreachable-unreachable g c = c.unreachable.type_inv
