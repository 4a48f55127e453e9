use Rattle.std.proofs.Common.{◌+◌, ◌∷◌, ◌++◌, ◌∙◌, [], ap, append_assoc}
use Rattle.klsm_parts.specs.Sharing.{own_after_share, shared_after_share}
use Rattle.klsm_schedules.specs.declared.step.Entry.TheVariants.{Committed}
use Rattle.klsm_schedules.specs.declared.step.Event.TheVariants.{Share}
use Rattle.klsm_board.specs.Steps.{mine}
use Rattle.klsm_board.specs.Seats.{both_in_hand}
use Rattle.klsm_board.specs.Entries.{both_released}
use Rattle.klsm_board.proofs.lemmas.seats.StandLemmas.{stands}
use Rattle.klsm_board.proofs.lemmas.hands.EventLemmas.{own_in_both, shared_in_both, not_shared}
use Rattle.klsm_board.proofs.lemmas.hands.PossibleLemmas.{apart_in_hand}
use Rattle.klsm_board.proofs.lemmas.hands.CommitLemmas.{has_still, share_done, share_sets_front, share_told}
use Rattle.klsm_board.proofs.sharing.share_both.Goals as goal

pub share_in-requires : goal.share_in-requires
share_in-requires g c =
    let content = g.S.Holding.content in let suits = g.S.Holding.suits in
    let m = c.args.table.now.key in let t = c.args.thread in let k = c.requires.has in
    record {
      sized = c.requires.sized;
      seat = c.requires.seat;
      carries = (k.0, k.1, k.2.carries, apart_in_hand content suits m t (both_in_hand t k.0 k.1) c.args.seat.now.me (t + 1) 0 k.0 k.1 k.2 (not_shared t) (own_in_both t k.0 k.1) (shared_in_both t k.0 k.1), k.3, k.4);
    }

pub commit_sharing-requires-clause-out : goal.commit_sharing-requires-clause-out
commit_sharing-requires-clause-out g c =
    let content = g.S.Holding.content in let suits = g.S.Holding.suits in
    let m = c.args.table.now.key in let t = c.args.thread in let k = c.requires.has in
    let me = c.args.seat.now.me in let me' = c.share_in.new.seat.me in let same = c.share_in.ensures.same.2 in
    let did = c.in-Ok.ensures.done k.0 k.1 k.2.carries in (
      k.0,
      both_in_hand t (own_after_share k.0 k.0) (shared_after_share k.1 k.0),
      share_done content suits m t k.0 k.1 k.0 me me' k.2 same did.0 did.1,
      share_sets_front content suits m t k.0 k.1 k.0 c.in-Ok.front me me' k.2 same did.3,
    )

pub release_both-requires-clause-stands : goal.release_both-requires-clause-stands
release_both-requires-clause-stands g c =
    let t = c.args.thread in let k = c.requires.has in
    let did = c.in-Ok.ensures.done k.0 k.1 k.2.carries in
    let left = own_after_share k.0 k.0 in
    let common = shared_after_share k.1 k.0 in
    (left, common, stands (c.commit_sharing.ensures.has (both_in_hand t left common) did.1))

pub release_both-requires-in-Err-clause-stands : goal.release_both-requires-in-Err-clause-stands
release_both-requires-in-Err-clause-stands g c =
    let content = g.S.Holding.content in let suits = g.S.Holding.suits in
    let m = c.args.table.now.key in let t = c.args.thread in let k = c.requires.has in
    (k.0, k.1, stands (has_still content suits m t (both_in_hand t k.0 k.1) c.args.seat.now.me c.share_in.new.seat.me k.2 c.share_in.ensures.same.2 (c.in-Err.ensures.unchanged k.0 k.1 k.2.carries)))

pub returns-in-Ok-clause-done : goal.returns-in-Ok-clause-done
returns-in-Ok-clause-done g c own shared has =
    let content = g.S.Holding.content in let suits = g.S.Holding.suits in
    let m = c.args.table.now.key in let t = c.args.thread in let me = c.args.seat.now.me in let same = c.share_in.ensures.same.2 in
    let did = c.in-Ok.ensures.done own shared has.carries in
    let named = c.commit_sharing.ensures.list (both_in_hand t (own_after_share own own) (shared_after_share shared own)) did.1 in
    let outcome = share_told content suits m t own shared own named.0 me c.share_in.new.seat.me has same did.0.ascending named.1 in (
      did.0,
      did.2,
      c.release_both.ensures.list
          ∙ (ap (λ z. z ++ both_released t) (named.2 ∙ (ap (λ v. mine v ++ Committed (Share named.0) ∷ []) same ∙ ap (λ z. mine me.0 ++ Committed (Share z) ∷ []) outcome))
          ∙ append_assoc (mine me.0) (Committed (Share own) ∷ []) (both_released t)),
    )

pub returns-in-Err-clause-full : goal.returns-in-Err-clause-full
returns-in-Err-clause-full g c is own shared has = c.in-Err.ensures.full is own shared has.carries

pub returns-in-Err-clause-memory : goal.returns-in-Err-clause-memory
returns-in-Err-clause-memory g c is own shared has = c.in-Err.ensures.memory is own shared has.carries
