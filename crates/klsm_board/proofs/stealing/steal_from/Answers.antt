use Rattle.std.proofs.Common.{◌≡◌, ◌+◌, ◌-◌, ◌∷◌, ◌++◌, ◌∙◌, [], ap, refl, sym, inl, inr, append_assoc}
use Rattle.klsm_parts.specs.Stealing.{own_after_steal, victim_after_steal}
use Rattle.klsm_schedules.specs.declared.step.Entry.TheVariants.{Acquired, Committed, Released, Missed}
use Rattle.klsm_schedules.specs.declared.step.Event.TheVariants.{Steal}
use Rattle.klsm_board.specs.Steps.{mine}
use Rattle.klsm_board.specs.Seats.{own_in_hand, victim_in_hand}
use Rattle.klsm_board.specs.Stealing.{stolen}
use Rattle.klsm_board.proofs.lemmas.seats.StandLemmas.{stands}
use Rattle.klsm_board.proofs.lemmas.hands.EventLemmas.{differ, victim_not_in_one, own_beside_victim, victim_beside_own}
use Rattle.klsm_board.proofs.lemmas.hands.PossibleLemmas.{apart_in_hand}
use Rattle.klsm_board.proofs.lemmas.hands.CommitLemmas.{has_still, steal_done, steal_told}
use Rattle.klsm_board.proofs.lemmas.calls.TestLemmas.{where_zero, where_not_zero}
use Rattle.klsm_board.proofs.stealing.steal_from.Goals as goal

pub acquire_after_look-requires-clause-has : goal.acquire_after_look-requires-clause-has
acquire_after_look-requires-clause-has g c =
    let t = c.args.thread in let k = c.requires.has in
    (own_in_hand t k.0, stands k.1, victim_not_in_one t c.args.victim k.0 c.requires.victim.1)

pub steal_in-requires-clause-carries : goal.steal_in-requires-clause-carries
steal_in-requires-clause-carries g c =
    let content = g.S.Holding.content in let suits = g.S.Holding.suits in
    let m = c.args.table.now.key in let t = c.args.thread in let v = c.args.victim in let k = c.requires.has in
    let acquired = where_zero _ _ c.acquire_after_look.result c.if-acquire_after_look-ne0.false (c.acquire_after_look.ensures.outcome (own_in_hand t k.0) (stands k.1)) in
    let apart = apart_in_hand content suits m t (victim_in_hand t v acquired.0 k.0) c.acquire_after_look.new.seat.me (t + 1) (v + 1) k.0 acquired.0 acquired.1 (λ e. differ v t c.requires.victim.1 (sym e))
    (own_beside_victim t v acquired.0 k.0 c.requires.victim.1) (victim_beside_own t v acquired.0 k.0) in
    (v, acquired.0, k.0, refl, acquired.1.carries, apart)

pub returns-then-acquire_after_look-ne0-clause-done : goal.returns-then-acquire_after_look-ne0-clause-done
returns-then-acquire_after_look-ne0-clause-done g c own has =
    let t = c.args.thread in
    let missed = where_not_zero _ _ c.acquire_after_look.result c.if-acquire_after_look-ne0.true (c.acquire_after_look.ensures.outcome (own_in_hand t own) (stands has)) in
    (missed.0, (Missed (c.args.victim + 1) (c.acquire_after_look.result - 1) ∷ [], inl (c.acquire_after_look.result - 1, refl), missed.1))

pub release_part-requires-clause-has : goal.release_part-requires-clause-has
release_part-requires-clause-has g c =
    let content = g.S.Holding.content in let suits = g.S.Holding.suits in
    let m = c.args.table.now.key in let t = c.args.thread in let v = c.args.victim in let k = c.requires.has in
    let acquired = where_zero _ _ c.acquire_after_look.result c.if-acquire_after_look-ne0.false (c.acquire_after_look.ensures.outcome (own_in_hand t k.0) (stands k.1)) in
    let left = c.if-not-steal_in.ensures.done v acquired.0 k.0 refl acquired.1.carries in (
      acquired.0,
      own_in_hand t k.0,
      stands (has_still content suits m t (victim_in_hand t v acquired.0 k.0) c.acquire_after_look.new.seat.me c.steal_in.new.seat.me acquired.1 c.steal_in.ensures.same.2 left.1),
      victim_not_in_one t v k.0 c.requires.victim.1,
    )

pub returns-then-not-steal_in-clause-done : goal.returns-then-not-steal_in-clause-done
returns-then-not-steal_in-clause-done g c own has =
    let content = g.S.Holding.content in let suits = g.S.Holding.suits in
    let m = c.args.table.now.key in let t = c.args.thread in let v = c.args.victim in let me = c.args.seat.now.me in
    let acquired = where_zero _ _ c.acquire_after_look.result c.if-acquire_after_look-ne0.false (c.acquire_after_look.ensures.outcome (own_in_hand t own) (stands has)) in
    let left = c.if-not-steal_in.ensures.done v acquired.0 own refl acquired.1.carries in
    let still = has_still content suits m t (victim_in_hand t v acquired.0 own) c.acquire_after_look.new.seat.me c.steal_in.new.seat.me acquired.1 c.steal_in.ensures.same.2 left.1 in (
      c.release_part.ensures.released acquired.0 (own_in_hand t own) (stands still) (victim_not_in_one t v own c.requires.victim.1),
      (
        Acquired (v + 1) acquired.0 ∷ Released (v + 1) ∷ [],
        inr (acquired.0, left.0, refl),
        c.release_part.ensures.list ∙ (ap (λ z. z ++ Released (v + 1) ∷ []) (ap mine c.steal_in.ensures.same.2 ∙ acquired.2)
            ∙ append_assoc (mine me.0) (Acquired (v + 1) acquired.0 ∷ []) (Released (v + 1) ∷ [])),
      ),
    )

pub commit_moving-requires-clause-out : goal.commit_moving-requires-clause-out
commit_moving-requires-clause-out g c =
    let content = g.S.Holding.content in let suits = g.S.Holding.suits in
    let m = c.args.table.now.key in let t = c.args.thread in let v = c.args.victim in let k = c.requires.has in
    let acquired = where_zero _ _ c.acquire_after_look.result c.if-acquire_after_look-ne0.false (c.acquire_after_look.ensures.outcome (own_in_hand t k.0) (stands k.1)) in
    let moved = stolen c.args.front c.args.most m.k k.0 acquired.0 in
    let did = c.if-not-steal_in.ensures.done v acquired.0 k.0 refl acquired.1.carries in (
      moved,
      victim_after_steal acquired.0 moved,
      own_in_hand t (own_after_steal k.0 moved),
      steal_done content suits m t v acquired.0 k.0 moved c.acquire_after_look.new.seat.me c.steal_in.new.seat.me c.requires.victim.1 acquired.1 c.steal_in.ensures.same.2 did.0 did.1,
      victim_not_in_one t v (own_after_steal k.0 moved) c.requires.victim.1,
    )

pub returns-clause-done : goal.returns-clause-done
returns-clause-done g c own has =
    let content = g.S.Holding.content in let suits = g.S.Holding.suits in
    let m = c.args.table.now.key in let t = c.args.thread in let v = c.args.victim in let me = c.args.seat.now.me in
    let acquired = where_zero _ _ c.acquire_after_look.result c.if-acquire_after_look-ne0.false (c.acquire_after_look.ensures.outcome (own_in_hand t own) (stands has)) in
    let moved = stolen c.args.front c.args.most m.k own acquired.0 in
    let did = c.if-not-steal_in.ensures.done v acquired.0 own refl acquired.1.carries in
    let left = victim_after_steal acquired.0 moved in let rest_of_hand = own_in_hand t (own_after_steal own moved) in
    let named = c.commit_moving.ensures.list left rest_of_hand did.1 in
    let same : named.0 ≡ moved = steal_told content suits m t v acquired.0 own moved named.0 c.acquire_after_look.new.seat.me c.steal_in.new.seat.me c.requires.victim.1 acquired.1 c.steal_in.ensures.same.2 did.0.ascending named.1 in (
      moved,
      c.commit_moving.ensures.released left rest_of_hand did.1 (victim_not_in_one t v (own_after_steal own moved) c.requires.victim.1),
      record {
        found = acquired.0;
        may = did.0;
        least = refl;
        steps = named.2 ∙ (ap (λ z. mine c.steal_in.new.seat.me.0 ++ Committed (Steal v z) ∷ Released (v + 1) ∷ []) same
            ∙ (ap (λ z. z ++ Committed (Steal v moved) ∷ Released (v + 1) ∷ []) (ap mine c.steal_in.ensures.same.2 ∙ acquired.2)
            ∙ append_assoc (mine me.0) (Acquired (v + 1) acquired.0 ∷ []) (Committed (Steal v moved) ∷ Released (v + 1) ∷ [])));
      },
    )
