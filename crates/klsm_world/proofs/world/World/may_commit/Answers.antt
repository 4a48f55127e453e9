use Rattle.std.proofs.Common.{◌≡◌, ◌==◌, ◌↔◌, [], IsTrue, List, length, true, false, inr, refl, sym, ap, subst, ◌∙◌, arith}
use Rattle.std.proofs.lemmas.Bool.{ltb-true}
use Rattle.klsm_parts.specs.Events.{MayPut, MayFlush, MayTake, MayTakeEarly, MayFindNothing, MaySpy, MayRefill}
use Rattle.klsm_parts.specs.Stealing.{MaySteal}
use Rattle.klsm_parts.specs.Sharing.{MayShare}
use Rattle.klsm_schedules.specs.declared.step.Event.TheVariants.{Put, Flush, Take, Early, Nothing, Spy, Refill, Steal, Share}
use Rattle.klsm_world.specs.Kept.{HoldsAll}
use Rattle.klsm_schedules.specs.LawfulWorlds.{IsLawful}
use Rattle.klsm_schedules.specs.LegalSteps.{MayCommit}
use Rattle.klsm_schedules.specs.OwnSteps.{inserted, shared_part, own_part}
use Rattle.klsm_world.specs.Refusals.{NamesNoVictim, parts_for}
use Rattle.klsm_world.specs.WorldView.{WorldView}
use Rattle.klsm_schedules.specs.Worlds.{hand_in, steps_of, content_of}
use Rattle.klsm_run.specs.declared.item.Item.{Item}
use Rattle.klsm_world.proofs.lemmas.lists.ConditionLemmas.{empty_if_no_length}
use Rattle.klsm_world.proofs.lemmas.refusals.HeldLemmas.{holds_both, holds_own}
use Rattle.klsm_world.proofs.world.World.may_commit.Goals as goal

pub returns-in-Take : goal.returns-in-Take
returns-in-Take g c =
    let r : WorldView = c.args.self.now in
    let x = c.in-Take.item in
    let own = c.items_of-own.result.now in
    let shared = c.items_of.result.now in
    let n = length (inserted (steps_of r.world c.args.thread)) in
    let lawful : IsLawful r.limits r.world = subst (λ (z : WorldView). IsLawful z.limits z.world) c.self.view_is c.self.invariant.lawful in
    let held : HoldsAll r.world c.args.thread (parts_for c.args.thread (Take x)) = subst (λ event. HoldsAll r.world c.args.thread (parts_for c.args.thread event)) c.in-Take.is c.requires.held in
    let k : c.self.inside.k ≡ r.limits.k = ap (λ (z : WorldView). z.limits.k) c.self.view_is in
    let both : MayTake r.limits.k c.args.thread own shared x ↔ MayCommit r.limits.k c.args.thread (hand_in r.world c.args.thread) n (Take x) =
    holds_both r.limits r.world c.args.thread lawful.agreed c.requires.thread shared_part (λ own shared. MayTake r.limits.k c.args.thread own shared x) own shared
    (subst (λ p. own ≡ content_of r.world p) c.own_part.ensures c.items_of-own.ensures.content) c.items_of.ensures.content held.0 held.1.0 in
    subst (λ event. IsTrue c.may_take.result ↔ MayCommit r.limits.k c.args.thread (hand_in r.world c.args.thread) n event) (sym c.in-Take.is) (
      λ goes. both.0 (subst (λ z. MayTake z c.args.thread own shared x) k (c.may_take.ensures.0 goes)),
      λ may. c.may_take.ensures.1 (subst (λ z. MayTake z c.args.thread own shared x) (sym k) (both.1 may)),
    )

pub returns-in-Early : goal.returns-in-Early
returns-in-Early g c =
    let r : WorldView = c.args.self.now in
    let x = c.in-Early.item in
    let front = c.in-Early.front in
    let own = c.items_of-own.result.now in
    let n = length (inserted (steps_of r.world c.args.thread)) in
    let lawful : IsLawful r.limits r.world = subst (λ (z : WorldView). IsLawful z.limits z.world) c.self.view_is c.self.invariant.lawful in
    let held : HoldsAll r.world c.args.thread (parts_for c.args.thread (Early x front)) = subst (λ event. HoldsAll r.world c.args.thread (parts_for c.args.thread event)) c.in-Early.is c.requires.held in
    let has = holds_own r.limits r.world c.args.thread lawful.agreed c.requires.thread (λ own. MayTakeEarly own x front) own
    (subst (λ p. own ≡ content_of r.world p) c.own_part.ensures c.items_of-own.ensures.content) held.0 in
    subst (λ event. IsTrue c.may_take_early.result ↔ MayCommit r.limits.k c.args.thread (hand_in r.world c.args.thread) n event) (sym c.in-Early.is)
    (λ goes. has.0 (c.may_take_early.ensures.0 goes), λ may. c.may_take_early.ensures.1 (has.1 may))

pub returns-then-own-self : goal.returns-then-own-self
returns-then-own-self g c =
    let r : WorldView = c.args.self.now in
    let x = c.in-Put.item in
    let own = c.items_of-own.result.now in
    let n = length (inserted (steps_of r.world c.args.thread)) in
    let lawful : IsLawful r.limits r.world = subst (λ (z : WorldView). IsLawful z.limits z.world) c.self.view_is c.self.invariant.lawful in
    let held : HoldsAll r.world c.args.thread (parts_for c.args.thread (Put x)) = subst (λ event. HoldsAll r.world c.args.thread (parts_for c.args.thread event)) c.in-Put.is c.requires.held in
    let fits : MayPut r.limits.k own = subst (λ (z : WorldView). MayPut z.limits.k own) c.self.view_is c.if-own-self.true in
    let has = (holds_own r.limits r.world c.args.thread lawful.agreed c.requires.thread (MayPut r.limits.k) own
    (subst (λ p. own ≡ content_of r.world p) c.own_part.ensures c.items_of-own.ensures.content) held.0).0 fits in
    subst (λ event. IsTrue c.bears_stamp.result ↔ MayCommit r.limits.k c.args.thread (hand_in r.world c.args.thread) n event) (sym c.in-Put.is)
    (λ stamp. record { held = has; stamp = c.bears_stamp.ensures.0 stamp }, λ may. c.bears_stamp.ensures.1 may.stamp)

pub returns-then-is_empty : goal.returns-then-is_empty
returns-then-is_empty g c =
    let r : WorldView = c.args.self.now in
    let own = c.items_of-own.result.now in
    let shared = c.items_of-then-is_empty.result.now in
    let n = length (inserted (steps_of r.world c.args.thread)) in
    let lawful : IsLawful r.limits r.world = subst (λ (z : WorldView). IsLawful z.limits z.world) c.self.view_is c.self.invariant.lawful in
    let held : HoldsAll r.world c.args.thread (parts_for c.args.thread Nothing) = subst (λ event. HoldsAll r.world c.args.thread (parts_for c.args.thread event)) c.in-Nothing.is c.requires.held in
    let none : own ≡ [] = empty_if_no_length own c.if-is_empty.ensures in
    let both = holds_both r.limits r.world c.args.thread lawful.agreed c.requires.thread shared_part MayFindNothing own shared
    (subst (λ p. own ≡ content_of r.world p) c.own_part.ensures c.items_of-own.ensures.content) c.items_of-then-is_empty.ensures.content held.0 held.1.0 in
    subst (λ event. IsTrue c.is_empty-then-is_empty.result ↔ MayCommit r.limits.k c.args.thread (hand_in r.world c.args.thread) n event) (sym c.in-Nothing.is) (
      λ empty. both.0 (record { own_empty = none; shared_empty = empty_if_no_length shared (sym empty ∙ c.is_empty-then-is_empty.ensures) }),
      λ may. c.is_empty-then-is_empty.ensures ∙ ap (λ (xs : List Item). length xs == 0) (both.1 may).shared_empty,
    )

pub returns-else-own-self : goal.returns-else-own-self
returns-else-own-self g c =
    let r : WorldView = c.args.self.now in
    let own = c.items_of-own.result.now in
    let n = length (inserted (steps_of r.world c.args.thread)) in
    let lawful : IsLawful r.limits r.world = subst (λ (z : WorldView). IsLawful z.limits z.world) c.self.view_is c.self.invariant.lawful in
    let held : HoldsAll r.world c.args.thread (parts_for c.args.thread (Put c.in-Put.item)) = subst (λ event. HoldsAll r.world c.args.thread (parts_for c.args.thread event)) c.in-Put.is c.requires.held in
    let k : c.self.inside.k ≡ r.limits.k = ap (λ (z : WorldView). z.limits.k) c.self.view_is in
    let fits = holds_own r.limits r.world c.args.thread lawful.agreed c.requires.thread (MayPut r.limits.k) own
    (subst (λ p. own ≡ content_of r.world p) c.own_part.ensures c.items_of-own.ensures.content) held.0 in (
      λ goes. absurd {A = MayCommit r.limits.k c.args.thread (hand_in r.world c.args.thread) n c.args.event.now} (omega (arith, ltb-true (length own) c.self.inside.k goes, c.if-own-self.false)),
      λ may. absurd (omega (arith, fits.1 (subst (MayCommit r.limits.k c.args.thread (hand_in r.world c.args.thread) n) c.in-Put.is may).held, k, c.if-own-self.false)),
    )

pub returns-else-is_empty : goal.returns-else-is_empty
returns-else-is_empty g c =
    let r : WorldView = c.args.self.now in
    let own = c.items_of-own.result.now in
    let n = length (inserted (steps_of r.world c.args.thread)) in
    let lawful : IsLawful r.limits r.world = subst (λ (z : WorldView). IsLawful z.limits z.world) c.self.view_is c.self.invariant.lawful in
    let held : HoldsAll r.world c.args.thread (parts_for c.args.thread Nothing) = subst (λ event. HoldsAll r.world c.args.thread (parts_for c.args.thread event)) c.in-Nothing.is c.requires.held in
    let both = holds_both r.limits r.world c.args.thread lawful.agreed c.requires.thread shared_part MayFindNothing own (content_of r.world shared_part)
    (subst (λ p. own ≡ content_of r.world p) c.own_part.ensures c.items_of-own.ensures.content) refl held.0 held.1.0 in (
      λ goes. let bad : false ≡ true = sym c.if-is_empty.false ∙ goes in cc,
      λ may. c.is_empty.ensures ∙ ap (λ (xs : List Item). length xs == 0) (both.1 (subst (MayCommit r.limits.k c.args.thread (hand_in r.world c.args.thread) n) c.in-Nothing.is may)).own_empty,
    )

pub returns-then-may_flush : goal.returns-then-may_flush
returns-then-may_flush g c =
    let r : WorldView = c.args.self.now in
    let own = c.items_of-own.result.now in
    let n = length (inserted (steps_of r.world c.args.thread)) in
    let x = c.in-Flush.item in let moved = c.in-Flush.moved in
    let lawful : IsLawful r.limits r.world = subst (λ (z : WorldView). IsLawful z.limits z.world) c.self.view_is c.self.invariant.lawful in
    let held : HoldsAll r.world c.args.thread (parts_for c.args.thread (Flush x moved)) = subst (λ event. HoldsAll r.world c.args.thread (parts_for c.args.thread event)) c.in-Flush.is c.requires.held in
    let k : c.self.inside.k ≡ r.limits.k = ap (λ (z : WorldView). z.limits.k) c.self.view_is in
    let both = holds_both r.limits r.world c.args.thread lawful.agreed c.requires.thread shared_part (λ own shared. MayFlush r.limits.k own x moved) own (content_of r.world shared_part)
    (subst (λ p. own ≡ content_of r.world p) c.own_part.ensures c.items_of-own.ensures.content) refl held.0 held.1.0 in
    let fits : MayFlush r.limits.k own x moved = subst (λ z. MayFlush z own x moved) k (subst (MayFlush c.self.inside.k own x) c.as_slice.ensures (c.may_flush.ensures.0 c.if-may_flush.true)) in
    subst (λ event. IsTrue c.bears_stamp-then-may_flush.result ↔ MayCommit r.limits.k c.args.thread (hand_in r.world c.args.thread) n event) (sym c.in-Flush.is)
    (λ stamp. record { held = both.0 fits; stamp = c.bears_stamp-then-may_flush.ensures.0 stamp }, λ may. c.bears_stamp-then-may_flush.ensures.1 may.stamp)

pub returns-else-may_flush : goal.returns-else-may_flush
returns-else-may_flush g c =
    let r : WorldView = c.args.self.now in
    let own = c.items_of-own.result.now in
    let n = length (inserted (steps_of r.world c.args.thread)) in
    let x = c.in-Flush.item in let moved = c.in-Flush.moved in
    let lawful : IsLawful r.limits r.world = subst (λ (z : WorldView). IsLawful z.limits z.world) c.self.view_is c.self.invariant.lawful in
    let held : HoldsAll r.world c.args.thread (parts_for c.args.thread (Flush x moved)) = subst (λ event. HoldsAll r.world c.args.thread (parts_for c.args.thread event)) c.in-Flush.is c.requires.held in
    let k : c.self.inside.k ≡ r.limits.k = ap (λ (z : WorldView). z.limits.k) c.self.view_is in
    let both = holds_both r.limits r.world c.args.thread lawful.agreed c.requires.thread shared_part (λ own shared. MayFlush r.limits.k own x moved) own (content_of r.world shared_part)
    (subst (λ p. own ≡ content_of r.world p) c.own_part.ensures c.items_of-own.ensures.content) refl held.0 held.1.0 in
    subst (λ event. IsTrue c.may_flush.result ↔ MayCommit r.limits.k c.args.thread (hand_in r.world c.args.thread) n event) (sym c.in-Flush.is) (
      λ goes. let bad : false ≡ true = sym c.if-may_flush.false ∙ goes in cc,
      λ may. c.may_flush.ensures.1 (subst (MayFlush c.self.inside.k own x) (sym c.as_slice.ensures) (subst (λ z. MayFlush z own x moved) (sym k) (both.1 may.held))),
    )

pub returns-in-Spy : goal.returns-in-Spy
returns-in-Spy g c =
    let r : WorldView = c.args.self.now in
    let own = c.items_of-own.result.now in
    let n = length (inserted (steps_of r.world c.args.thread)) in
    let victim = c.in-Spy.victim in let moved = c.in-Spy.moved in let from = c.items_of-in-Spy.result.now in
    let lawful : IsLawful r.limits r.world = subst (λ (z : WorldView). IsLawful z.limits z.world) c.self.view_is c.self.invariant.lawful in
    let held : HoldsAll r.world c.args.thread (parts_for c.args.thread (Spy victim moved)) = subst (λ event. HoldsAll r.world c.args.thread (parts_for c.args.thread event)) c.in-Spy.is c.requires.held in
    let both = holds_both r.limits r.world c.args.thread lawful.agreed c.requires.thread (own_part victim) (λ own from. MaySpy own from moved) own from
    (subst (λ p. own ≡ content_of r.world p) c.own_part.ensures c.items_of-own.ensures.content) (subst (λ p. from ≡ content_of r.world p) c.own_part-in-Spy.ensures c.items_of-in-Spy.ensures.content) held.0 held.1.0 in
    subst (λ event. IsTrue c.may_spy.result ↔ MayCommit r.limits.k c.args.thread (hand_in r.world c.args.thread) n event) (sym c.in-Spy.is) (
      λ goes. record {
        held = both.0 (subst (MaySpy own from) c.as_slice-in-Spy.ensures (c.may_spy.ensures.0 goes));
        another = λ same. subst (λ event. NamesNoVictim r.limits c.args.thread event → ⊥) c.in-Spy.is c.requires.victim (inr same);
      },
      λ may. c.may_spy.ensures.1 (subst (MaySpy own from) (sym c.as_slice-in-Spy.ensures) (both.1 may.held)),
    )

pub returns-in-Refill : goal.returns-in-Refill
returns-in-Refill g c =
    let r : WorldView = c.args.self.now in
    let own = c.items_of-own.result.now in
    let n = length (inserted (steps_of r.world c.args.thread)) in
    let moved = c.in-Refill.moved in let shared = c.items_of-in-Refill.result.now in
    let lawful : IsLawful r.limits r.world = subst (λ (z : WorldView). IsLawful z.limits z.world) c.self.view_is c.self.invariant.lawful in
    let held : HoldsAll r.world c.args.thread (parts_for c.args.thread (Refill moved)) = subst (λ event. HoldsAll r.world c.args.thread (parts_for c.args.thread event)) c.in-Refill.is c.requires.held in
    let k : c.self.inside.k ≡ r.limits.k = ap (λ (z : WorldView). z.limits.k) c.self.view_is in
    let both = holds_both r.limits r.world c.args.thread lawful.agreed c.requires.thread shared_part (λ own shared. MayRefill r.limits.k own shared moved) own shared
    (subst (λ p. own ≡ content_of r.world p) c.own_part.ensures c.items_of-own.ensures.content) c.items_of-in-Refill.ensures.content held.0 held.1.0 in
    subst (λ event. IsTrue c.may_refill.result ↔ MayCommit r.limits.k c.args.thread (hand_in r.world c.args.thread) n event) (sym c.in-Refill.is) (
      λ goes. both.0 (subst (λ z. MayRefill z own shared moved) k (subst (MayRefill c.self.inside.k own shared) c.as_slice-in-Refill.ensures (c.may_refill.ensures.0 goes))),
      λ may. c.may_refill.ensures.1 (subst (MayRefill c.self.inside.k own shared) (sym c.as_slice-in-Refill.ensures) (subst (λ z. MayRefill z own shared moved) (sym k) (both.1 may))),
    )

pub returns-in-Steal : goal.returns-in-Steal
returns-in-Steal g c =
    let r : WorldView = c.args.self.now in
    let own = c.items_of-own.result.now in
    let n = length (inserted (steps_of r.world c.args.thread)) in
    let victim = c.in-Steal.victim in let moved = c.in-Steal.moved in let from = c.items_of-in-Steal.result.now in
    let lawful : IsLawful r.limits r.world = subst (λ (z : WorldView). IsLawful z.limits z.world) c.self.view_is c.self.invariant.lawful in
    let held : HoldsAll r.world c.args.thread (parts_for c.args.thread (Steal victim moved)) = subst (λ event. HoldsAll r.world c.args.thread (parts_for c.args.thread event)) c.in-Steal.is c.requires.held in
    let k : c.self.inside.k ≡ r.limits.k = ap (λ (z : WorldView). z.limits.k) c.self.view_is in
    let both = holds_both r.limits r.world c.args.thread lawful.agreed c.requires.thread (own_part victim) (λ own from. MaySteal r.limits.k own from moved) own from
    (subst (λ p. own ≡ content_of r.world p) c.own_part.ensures c.items_of-own.ensures.content) (subst (λ p. from ≡ content_of r.world p) c.own_part-in-Steal.ensures c.items_of-in-Steal.ensures.content) held.0 held.1.0 in
    subst (λ event. IsTrue c.may_steal.result ↔ MayCommit r.limits.k c.args.thread (hand_in r.world c.args.thread) n event) (sym c.in-Steal.is) (
      λ goes. record {
        held = both.0 (subst (λ z. MaySteal z own from moved) k (subst (MaySteal c.self.inside.k own from) c.as_slice-in-Steal.ensures (c.may_steal.ensures.0 goes)));
        another = λ same. subst (λ event. NamesNoVictim r.limits c.args.thread event → ⊥) c.in-Steal.is c.requires.victim (inr same);
      },
      λ may. c.may_steal.ensures.1 (subst (MaySteal c.self.inside.k own from) (sym c.as_slice-in-Steal.ensures) (subst (λ z. MaySteal z own from moved) (sym k) (both.1 may.held))),
    )

pub returns-in-Share : goal.returns-in-Share
returns-in-Share g c =
    let r : WorldView = c.args.self.now in
    let own = c.items_of-own.result.now in
    let n = length (inserted (steps_of r.world c.args.thread)) in
    let moved = c.in-Share.moved in let shared = content_of r.world shared_part in
    let lawful : IsLawful r.limits r.world = subst (λ (z : WorldView). IsLawful z.limits z.world) c.self.view_is c.self.invariant.lawful in
    let held : HoldsAll r.world c.args.thread (parts_for c.args.thread (Share moved)) = subst (λ event. HoldsAll r.world c.args.thread (parts_for c.args.thread event)) c.in-Share.is c.requires.held in
    let both = holds_both r.limits r.world c.args.thread lawful.agreed c.requires.thread shared_part (λ own shared. MayShare own moved) own shared
    (subst (λ p. own ≡ content_of r.world p) c.own_part.ensures c.items_of-own.ensures.content) refl held.0 held.1.0 in
    subst (λ event. IsTrue c.may_share.result ↔ MayCommit r.limits.k c.args.thread (hand_in r.world c.args.thread) n event) (sym c.in-Share.is) (
      λ goes. both.0 (subst (MayShare own) c.as_slice-in-Share.ensures (c.may_share.ensures.0 goes)),
      λ may. c.may_share.ensures.1 (subst (MayShare own) (sym c.as_slice-in-Share.ensures) (both.1 may)),
    )
