use Rattle.std.proofs.Common.{◌+◌, ◌∷◌, ◌++◌, [], ◌∙◌, ap, refl}
use Rattle.klsm_parts.specs.Events.{own_after_put}
use Rattle.klsm_schedules.specs.declared.step.Entry.TheVariants.{Committed, Released}
use Rattle.klsm_schedules.specs.declared.step.Event.TheVariants.{Put}
use Rattle.klsm_schedules.specs.OwnSteps.{own_part}
use Rattle.klsm_board.specs.Steps.{mine}
use Rattle.klsm_board.specs.Seats.{own_in_hand}
use Rattle.klsm_board.proofs.lemmas.hands.EventLemmas.{own_in_one}
use Rattle.klsm_board.proofs.lemmas.hands.PossibleLemmas.{new_in_hand}
use Rattle.klsm_board.proofs.lemmas.hands.CommitLemmas.{has_still, put_out}
use Rattle.klsm_board.proofs.inserting.put_own.Goals as goal

pub put_in-requires-clause-carries : goal.put_in-requires-clause-carries
put_in-requires-clause-carries g c =
    let content = g.S.Holding.content in let suits = g.S.Holding.suits in
    let m = c.args.table.now.key in let t = c.args.thread in let k = c.requires.has in
    (k.0, k.1.carries, new_in_hand content suits m t (own_in_hand t k.0) c.args.seat.now.me (t + 1) k.0 c.args.item k.1 c.requires.stamp (own_in_one t k.0))

pub commit_event-requires-clause-out : goal.commit_event-requires-clause-out
commit_event-requires-clause-out g c =
    let content = g.S.Holding.content in let suits = g.S.Holding.suits in
    let m = c.args.table.now.key in let t = c.args.thread in let k = c.requires.has in
    let put = (let h = c.put_in.ensures.done k.0 k.1.carries in rw c.if-put_in.true at h) in
    (own_after_put k.0 c.args.item, [], put_out content suits m t k.0 c.args.item c.args.seat.now.me c.put_in.new.seat.me k.1 c.put_in.ensures.same.2 c.requires.stamp put.0 put.1, refl)

pub returns-then-put_in-clause-done : goal.returns-then-put_in-clause-done
returns-then-put_in-clause-done g c own has =
    let put = (let h = c.put_in.ensures.done own has.carries in rw c.if-put_in.true at h) in (
      put.0,
      c.commit_event.ensures.released (own_after_put own c.args.item) [] put.1 refl,
      c.commit_event.ensures.list ∙ ap (λ v. mine v ++ Committed (Put c.args.item) ∷ Released (own_part c.args.thread) ∷ []) c.put_in.ensures.same.2,
    )

pub returns-else-put_in-clause-done : goal.returns-else-put_in-clause-done
returns-else-put_in-clause-done g c own has =
    let content = g.S.Holding.content in let suits = g.S.Holding.suits in
    let m = c.args.table.now.key in let t = c.args.thread in let same = c.put_in.ensures.same.2 in
    let kept = (let h = c.put_in.ensures.done own has.carries in rw c.if-put_in.false at h) in
    (kept.0, has_still content suits m t (own_in_hand t own) c.args.seat.now.me c.put_in.new.seat.me has same kept.1, ap mine same)
