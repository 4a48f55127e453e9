use Rattle.std.proofs.Common.{◌+◌, ◌∷◌, ◌++◌, ◌∙◌, ap, sym, subst}
use Rattle.klsm_parts.specs.Events.{own_after_take, shared_after_take}
use Rattle.klsm_parts.specs.Refilling.{refill_of}
use Rattle.klsm_schedules.specs.declared.step.Entry.TheVariants.{Committed}
use Rattle.klsm_schedules.specs.declared.step.Event.TheVariants.{Take}
use Rattle.klsm_schedules.specs.OwnSteps.{hand_of}
use Rattle.klsm_board.specs.Steps.{mine}
use Rattle.klsm_board.specs.Seats.{Carries, both_in_hand, last_arriving}
use Rattle.klsm_board.specs.Entries.{both_marked}
use Rattle.klsm_board.specs.Deleting.{refilled}
use Rattle.klsm_board.specs.TakingOut.{TakesTo}
use Rattle.klsm_board.proofs.lemmas.hands.EventLemmas.{own_in_both, shared_in_both, not_shared}
use Rattle.klsm_board.proofs.lemmas.hands.PossibleLemmas.{apart_in_hand, take_skips_few, take_keeps_order}
use Rattle.klsm_board.proofs.lemmas.hands.CommitLemmas.{take_done, take_leaves_shared, take_sets_front}
use Rattle.klsm_board.proofs.lemmas.calls.RefillLemmas.{none_refilled, then_refilled}
use Rattle.klsm_board.proofs.deleting.take_both_out.Goals as goal

pub take_out-requires-clause-carries : goal.take_out-requires-clause-carries
take_out-requires-clause-carries g c =
    let content = g.S.Holding.content in let suits = g.S.Holding.suits in
    let m = c.args.table.now.key in let t = c.args.thread in let k = c.requires.has in
    (k.0, k.1, k.2.carries, apart_in_hand content suits m t (both_in_hand t k.0 k.1) c.args.seat.now.me (t + 1) 0 k.0 k.1 k.2 (not_shared t) (own_in_both t k.0 k.1) (shared_in_both t k.0 k.1))

pub release_by_front-requires-clause-sets : goal.release_by_front-requires-clause-sets
release_by_front-requires-clause-sets g c =
    let content = g.S.Holding.content in let suits = g.S.Holding.suits in
    let m = c.args.table.now.key in let t = c.args.thread in let k = c.requires.has in let item = c.in_ok-item.item in
    let left = (c.in_ok-item.ensures.done k.0 k.1 k.2.carries).2 in
    let took = subst (λ o. TakesTo c.args.refill m.k k.0 k.1 item o left.0 (last_arriving g.S.Holding.arriving c.take_out.new.seat.me.1)) c.in-Some.is left.2 in
    take_sets_front content suits m t k.0 k.1 item c.in-Some.fronts.taken c.args.seat.now.me c.take_out.new.seat.me k.2 c.take_out.ensures.same.2 took.0 took.1

pub release_by_front-requires-clause-out : goal.release_by_front-requires-clause-out
release_by_front-requires-clause-out g c =
    let m = c.args.table.now.key in let t = c.args.thread in let k = c.requires.has in let item = c.in_ok-item.item in
    let done = c.in_ok-item.ensures.done k.0 k.1 k.2.carries in let left = done.2 in
    let took = subst (λ o. TakesTo c.args.refill m.k k.0 k.1 item o left.0 (last_arriving g.S.Holding.arriving c.take_out.new.seat.me.1)) c.in-Some.is left.2 in
    let has = k.2 in
    (c.args.refill, k.0, k.1, ap (λ v. hand_of t (mine v)) c.take_out.ensures.same.2 ∙ has.hand_is, done.0, (left.0, left.1, took.2))

pub release_committed-requires-clause-leaves : goal.release_committed-requires-clause-leaves
release_committed-requires-clause-leaves g c =
    let content = g.S.Holding.content in let suits = g.S.Holding.suits in
    let m = c.args.table.now.key in let t = c.args.thread in let k = c.requires.has in let item = c.in_ok-item.item in
    let left = (c.in_ok-item.ensures.done k.0 k.1 k.2.carries).2 in
    let took = subst (λ o. TakesTo c.args.refill m.k k.0 k.1 item o left.0 (last_arriving g.S.Holding.arriving c.take_out.new.seat.me.1)) c.in-None.is left.2 in
    take_leaves_shared content suits m t k.0 k.1 item c.args.seat.now.me c.take_out.new.seat.me k.2 c.take_out.ensures.same.2 took.0

pub release_committed-requires-clause-out : goal.release_committed-requires-clause-out
release_committed-requires-clause-out g c =
    let content = g.S.Holding.content in let suits = g.S.Holding.suits in
    let m = c.args.table.now.key in let t = c.args.thread in let k = c.requires.has in let item = c.in_ok-item.item in let me' = c.take_out.new.seat.me in
    let done = c.in_ok-item.ensures.done k.0 k.1 k.2.carries in let left = done.2 in
    let took = subst (λ o. TakesTo c.args.refill m.k k.0 k.1 item o left.0 (last_arriving g.S.Holding.arriving c.take_out.new.seat.me.1)) c.in-None.is left.2 in
    let carries = subst (λ z. Carries content suits m t (both_in_hand t (own_after_take k.0 item) z) me') took.1 left.1 in
    (own_after_take k.0 item, shared_after_take k.0 k.1 item, take_done content suits m t k.0 k.1 item c.args.seat.now.me me' k.2 c.take_out.ensures.same.2 done.0 carries)

pub returns-in-Some-clause-done : goal.returns-in-Some-clause-done
returns-in-Some-clause-done g c own shared has =
    let content = g.S.Holding.content in let suits = g.S.Holding.suits in
    let m = c.args.table.now.key in let t = c.args.thread in let me = c.args.seat.now.me in let item = c.in_ok-item.item in let same = c.take_out.ensures.same.2 in
    let done = c.in_ok-item.ensures.done own shared has.carries in let left = done.2 in
    let own' = own_after_take own item in let shared' = shared_after_take own shared item in
    let took = subst (λ o. TakesTo c.args.refill m.k own shared item o left.0 (last_arriving g.S.Holding.arriving c.take_out.new.seat.me.1)) c.in-Some.is left.2 in (
      c.release_by_front.ensures.has,
      done.0,
      done.1,
      take_skips_few content suits m t own shared me item has done.0,
      take_keeps_order content suits m t own shared me item has done.0,
      c.release_by_front.ensures.list c.args.refill own shared (ap (λ v. hand_of t (mine v)) same ∙ has.hand_is) (left.0, left.1, took.2)
          ∙ (ap (λ v. mine v ++ Committed (Take item) ∷ (refilled (refill_of c.args.refill m.k own' shared') ++ both_marked t item.key)) same
          ∙ ap (λ z. mine me.0 ++ Committed (Take item) ∷ (z ++ both_marked t item.key)) (sym (then_refilled c.args.refill m.k own shared item took.0))),
    )

pub returns-in-None-clause-done : goal.returns-in-None-clause-done
returns-in-None-clause-done g c own shared has =
    let content = g.S.Holding.content in let suits = g.S.Holding.suits in
    let m = c.args.table.now.key in let t = c.args.thread in let me = c.args.seat.now.me in let item = c.in_ok-item.item in
    let done = c.in_ok-item.ensures.done own shared has.carries in let left = done.2 in
    let took = subst (λ o. TakesTo c.args.refill m.k own shared item o left.0 (last_arriving g.S.Holding.arriving c.take_out.new.seat.me.1)) c.in-None.is left.2 in (
      c.release_committed.ensures.has,
      done.0,
      done.1,
      take_skips_few content suits m t own shared me item has done.0,
      take_keeps_order content suits m t own shared me item has done.0,
      c.release_committed.ensures.list
          ∙ (ap (λ v. mine v ++ Committed (Take item) ∷ both_marked t item.key) c.take_out.ensures.same.2
          ∙ ap (λ z. mine me.0 ++ Committed (Take item) ∷ (z ++ both_marked t item.key)) (sym (none_refilled c.args.refill m.k t own shared item done.0 took.0))),
    )
