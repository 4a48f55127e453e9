use Rattle.std.proofs.Common.{◌≡◌, ◌+◌, ◌-◌, ◌∷◌, ◌++◌, ◌∙◌, [], ap, refl, inl, inr, append_assoc}
use Rattle.klsm_parts.specs.Events.{own_after_spy, victim_after_spy}
use Rattle.klsm_schedules.specs.declared.step.Entry.TheVariants.{Acquired, Committed, Released, Missed}
use Rattle.klsm_schedules.specs.declared.step.Event.TheVariants.{Spy}
use Rattle.klsm_board.specs.Steps.{mine}
use Rattle.klsm_board.specs.Seats.{both_in_hand, three_in_hand}
use Rattle.klsm_board.proofs.lemmas.seats.StandLemmas.{stands}
use Rattle.klsm_board.proofs.lemmas.hands.EventLemmas.{victim_not_in_both}
use Rattle.klsm_board.proofs.lemmas.hands.CommitLemmas.{has_still, spy_done, spy_told}
use Rattle.klsm_board.proofs.lemmas.calls.TestLemmas.{where_zero, where_not_zero}
use Rattle.klsm_board.proofs.spying.try_victim.Goals as goal

pub acquire_part-requires-clause-has : goal.acquire_part-requires-clause-has
acquire_part-requires-clause-has g c =
    let t = c.args.thread in let k = c.requires.has in
    (both_in_hand t [] k.0, stands k.1, victim_not_in_both t c.args.victim [] k.0 c.requires.victim.1)

pub spy_in-requires-clause-carries : goal.spy_in-requires-clause-carries
spy_in-requires-clause-carries g c =
    let t = c.args.thread in let k = c.requires.has in
    let acquired = where_zero _ _ c.acquire_part.result c.if-acquire_part-ne0.false (c.acquire_part.ensures.outcome (both_in_hand t [] k.0) (stands k.1)) in
    (c.args.victim, acquired.0, k.0, refl, acquired.1.carries)

pub returns-then-acquire_part-ne0-clause-done : goal.returns-then-acquire_part-ne0-clause-done
returns-then-acquire_part-ne0-clause-done g c shared has =
    let t = c.args.thread in
    let missed = where_not_zero _ _ c.acquire_part.result c.if-acquire_part-ne0.true (c.acquire_part.ensures.outcome (both_in_hand t [] shared) (stands has)) in
    (missed.0, (Missed (c.args.victim + 1) (c.acquire_part.result - 1) ∷ [], inl (c.acquire_part.result - 1, refl), missed.1))

pub release_part-requires-clause-has : goal.release_part-requires-clause-has
release_part-requires-clause-has g c =
    let content = g.S.Holding.content in let suits = g.S.Holding.suits in
    let m = c.args.table.now.key in let t = c.args.thread in let v = c.args.victim in let k = c.requires.has in
    let acquired = where_zero _ _ c.acquire_part.result c.if-acquire_part-ne0.false (c.acquire_part.ensures.outcome (both_in_hand t [] k.0) (stands k.1)) in
    let left = c.if-not-spy_in.ensures.done v acquired.0 k.0 refl acquired.1.carries in (
      acquired.0,
      both_in_hand t [] k.0,
      stands (has_still content suits m t (three_in_hand t v acquired.0 [] k.0) c.acquire_part.new.seat.me c.spy_in.new.seat.me acquired.1 c.spy_in.ensures.same.2 left.1),
      victim_not_in_both t v [] k.0 c.requires.victim.1,
    )

pub returns-then-not-spy_in-clause-done : goal.returns-then-not-spy_in-clause-done
returns-then-not-spy_in-clause-done g c shared has =
    let content = g.S.Holding.content in let suits = g.S.Holding.suits in
    let m = c.args.table.now.key in let t = c.args.thread in let v = c.args.victim in let me = c.args.seat.now.me in
    let acquired = where_zero _ _ c.acquire_part.result c.if-acquire_part-ne0.false (c.acquire_part.ensures.outcome (both_in_hand t [] shared) (stands has)) in
    let left = c.if-not-spy_in.ensures.done v acquired.0 shared refl acquired.1.carries in
    let still = has_still content suits m t (three_in_hand t v acquired.0 [] shared) c.acquire_part.new.seat.me c.spy_in.new.seat.me acquired.1 c.spy_in.ensures.same.2 left.1 in (
      c.release_part.ensures.released acquired.0 (both_in_hand t [] shared) (stands still) (victim_not_in_both t v [] shared c.requires.victim.1),
      (
        Acquired (v + 1) [] ∷ Released (v + 1) ∷ [],
        inr refl,
        c.release_part.ensures.list ∙ (ap (λ z. z ++ Released (v + 1) ∷ []) (ap mine c.spy_in.ensures.same.2 ∙ (acquired.2 ∙ ap (λ z. mine me.0 ++ Acquired (v + 1) z ∷ []) left.0))
            ∙ append_assoc (mine me.0) (Acquired (v + 1) [] ∷ []) (Released (v + 1) ∷ [])),
      ),
    )

pub commit_moving-requires-clause-out : goal.commit_moving-requires-clause-out
commit_moving-requires-clause-out g c =
    let content = g.S.Holding.content in let suits = g.S.Holding.suits in
    let m = c.args.table.now.key in let t = c.args.thread in let v = c.args.victim in let k = c.requires.has in
    let acquired = where_zero _ _ c.acquire_part.result c.if-acquire_part-ne0.false (c.acquire_part.ensures.outcome (both_in_hand t [] k.0) (stands k.1)) in
    let spied = c.if-not-spy_in.ensures.done v acquired.0 k.0 refl acquired.1.carries in (
      spied.0,
      victim_after_spy acquired.0 spied.0,
      both_in_hand t (own_after_spy spied.0) k.0,
      spy_done content suits m t v acquired.0 [] k.0 spied.0 c.acquire_part.new.seat.me c.spy_in.new.seat.me c.requires.victim.1 acquired.1 c.spy_in.ensures.same.2 spied.1 spied.2,
      victim_not_in_both t v (own_after_spy spied.0) k.0 c.requires.victim.1,
    )

pub returns-clause-done : goal.returns-clause-done
returns-clause-done g c shared has =
    let content = g.S.Holding.content in let suits = g.S.Holding.suits in
    let m = c.args.table.now.key in let t = c.args.thread in let v = c.args.victim in let me = c.args.seat.now.me in
    let acquired = where_zero _ _ c.acquire_part.result c.if-acquire_part-ne0.false (c.acquire_part.ensures.outcome (both_in_hand t [] shared) (stands has)) in
    let spied = c.if-not-spy_in.ensures.done v acquired.0 shared refl acquired.1.carries in
    let left = victim_after_spy acquired.0 spied.0 in let rest_of_hand = both_in_hand t (own_after_spy spied.0) shared in
    let named = c.commit_moving.ensures.list left rest_of_hand spied.2 in
    let same : named.0 ≡ spied.0 = spy_told content suits m t v acquired.0 [] shared spied.0 named.0 c.acquire_part.new.seat.me c.spy_in.new.seat.me c.requires.victim.1 acquired.1 c.spy_in.ensures.same.2 named.1 in (
      spied.0,
      c.commit_moving.ensures.released left rest_of_hand spied.2 (victim_not_in_both t v (own_after_spy spied.0) shared c.requires.victim.1),
      record {
        found = acquired.0;
        may = spied.1;
        steps = named.2 ∙ (ap (λ z. mine c.spy_in.new.seat.me.0 ++ Committed (Spy v z) ∷ Released (v + 1) ∷ []) same
            ∙ (ap (λ z. z ++ Committed (Spy v spied.0) ∷ Released (v + 1) ∷ []) (ap mine c.spy_in.ensures.same.2 ∙ acquired.2)
            ∙ append_assoc (mine me.0) (Acquired (v + 1) acquired.0 ∷ []) (Committed (Spy v spied.0) ∷ Released (v + 1) ∷ [])));
      },
    )
