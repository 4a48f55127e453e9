use Rattle.std.proofs.Common.{ℕ, ◌+◌, ◌≤◌, ◌∷◌, ◌++◌, ◌∙◌, [], length, ap, sym, subst, append_assoc}
use Rattle.klsm_run.specs.Capacity.{heap_room}
use Rattle.klsm_parts.specs.Limit.{limit_of}
use Rattle.klsm_parts.specs.Events.{own_after_flush, shared_after_flush}
use Rattle.klsm_schedules.specs.declared.step.Entry.TheVariants.{Committed}
use Rattle.klsm_schedules.specs.declared.step.Event.TheVariants.{Flush}
use Rattle.klsm_board.specs.Steps.{mine}
use Rattle.klsm_board.specs.Seats.{both_in_hand}
use Rattle.klsm_board.specs.Entries.{both_released}
use Rattle.klsm_board.proofs.lemmas.seats.StandLemmas.{stands}
use Rattle.klsm_board.proofs.lemmas.hands.EventLemmas.{own_in_both, shared_in_both, not_shared}
use Rattle.klsm_board.proofs.lemmas.hands.PossibleLemmas.{apart_in_hand, new_in_hand}
use Rattle.klsm_board.proofs.lemmas.hands.CommitLemmas.{has_still, flush_out, flush_sets_front, flush_told}
use Rattle.klsm_board.proofs.inserting.flush_both.Goals as goal

pub flush_in-requires : goal.flush_in-requires
flush_in-requires g c =
    let content = g.S.Holding.content in let suits = g.S.Holding.suits in
    let m = c.args.table.now.key in let t = c.args.thread in let me = c.args.seat.now.me in let k = c.requires.has in
    let in_own = own_in_both t k.0 k.1 in let in_shared = shared_in_both t k.0 k.1 in let hand = both_in_hand t k.0 k.1 in
    record {
      sized = c.requires.sized;
      seat = c.requires.seat;
      carries = (
        k.0,
        k.1,
        k.2.carries,
        k.3,
        apart_in_hand content suits m t hand me (t + 1) 0 k.0 k.1 k.2 (not_shared t) in_own in_shared,
        new_in_hand content suits m t hand me (t + 1) k.0 c.args.item k.2 c.requires.stamp in_own,
        new_in_hand content suits m t hand me 0 k.1 c.args.item k.2 c.requires.stamp in_shared,
      );
    }

pub commit_moving_by_front-requires-clause-out : goal.commit_moving_by_front-requires-clause-out
commit_moving_by_front-requires-clause-out g c =
    let content = g.S.Holding.content in let suits = g.S.Holding.suits in
    let m = c.args.table.now.key in let t = c.args.thread in let k = c.requires.has in let x = c.args.item in
    let me = c.args.seat.now.me in let me' = c.flush_in.new.seat.me in let same = c.flush_in.ensures.same.2 in
    let did = c.in-Ok.ensures.done k.0 k.1 k.2.carries in (
      did.0,
      both_in_hand t (own_after_flush k.0 x did.0) (shared_after_flush k.1 did.0),
      flush_out content suits m t k.0 k.1 x did.0 me me' k.2 same c.requires.stamp did.1 did.2,
      flush_sets_front content suits m t k.0 k.1 x did.0 c.in-Ok.front me me' k.2 same did.4,
    )

pub release_both-requires-clause-stands : goal.release_both-requires-clause-stands
release_both-requires-clause-stands g c =
    let t = c.args.thread in let k = c.requires.has in
    let did = c.in-Ok.ensures.done k.0 k.1 k.2.carries in
    let left = own_after_flush k.0 c.args.item did.0 in
    let common = shared_after_flush k.1 did.0 in
    (left, common, stands (c.commit_moving_by_front.ensures.has (both_in_hand t left common) did.2))

pub release_both-requires-in-Err-clause-stands : goal.release_both-requires-in-Err-clause-stands
release_both-requires-in-Err-clause-stands g c =
    let content = g.S.Holding.content in let suits = g.S.Holding.suits in
    let m = c.args.table.now.key in let t = c.args.thread in let k = c.requires.has in
    (k.0, k.1, stands (has_still content suits m t (both_in_hand t k.0 k.1) c.args.seat.now.me c.flush_in.new.seat.me k.2 c.flush_in.ensures.same.2 (c.in-Err.ensures.unchanged k.0 k.1 k.2.carries)))

pub returns-in-Ok-clause-done : goal.returns-in-Ok-clause-done
returns-in-Ok-clause-done g c own shared has =
    let content = g.S.Holding.content in let suits = g.S.Holding.suits in
    let m = c.args.table.now.key in let t = c.args.thread in let me = c.args.seat.now.me in
    let did = c.in-Ok.ensures.done own shared has.carries in
    let named = c.commit_moving_by_front.ensures.list (both_in_hand t (own_after_flush own c.args.item did.0) (shared_after_flush shared did.0)) did.2 in
    let outcome = flush_told content suits m t own shared c.args.item did.0 named.0 me c.flush_in.new.seat.me has c.flush_in.ensures.same.2 named.1 in
    let limit : ℕ = limit_of g.S.PartSlot.levels heap_room in (
      named.0,
      outcome.0,
      subst (λ n. length shared + n ≤ limit) (sym outcome.1) did.3,
      c.release_both.ensures.list
          ∙ (ap (λ z. z ++ both_released t) (named.2 ∙ ap (λ v. mine v ++ Committed (Flush c.args.item named.0) ∷ []) c.flush_in.ensures.same.2)
          ∙ append_assoc (mine me.0) (Committed (Flush c.args.item named.0) ∷ []) (both_released t)),
    )

pub returns-in-Err-clause-full : goal.returns-in-Err-clause-full
returns-in-Err-clause-full g c is own shared has = c.in-Err.ensures.full is own shared has.carries

pub returns-in-Err-clause-memory : goal.returns-in-Err-clause-memory
returns-in-Err-clause-memory g c is own shared has = c.in-Err.ensures.memory is own shared has.carries
