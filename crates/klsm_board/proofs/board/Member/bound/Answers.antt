use Rattle.std.proofs.Common.{ℕ, suc, ◌≤◌, List, ◌∙◌, [], refl, subst, ap}
use Rattle.atomic_table.specs.Seated.{TableId}
use Rattle.klsm_parts.proofs.FitLemmas.{local_fits, shared_fits}
use Rattle.klsm_board.specs.declared.rule.Own.{Own}
use Rattle.klsm_board.specs.declared.sizes.Sizes.{Sizes}
use Rattle.klsm_board.specs.Boards.{known_of_others, own_steps}
use Rattle.klsm_board.specs.Bounding.{Bounds, MissesSome, SeesAllLive}
use Rattle.klsm_board.proofs.lemmas.calls.BoundingLemmas.{missed_within, sees_since, times_entries, times_missed_quiet}
use Rattle.klsm_board.proofs.lemmas.calls.WaitLemmas.{same_then, adds_then, lock_in_range, lock_in_table}
use Rattle.klsm_board.proofs.board.Member.bound.Goals as goal

pub unreachable-unreachable : goal.unreachable-unreachable
unreachable-unreachable g c = c.unreachable.type_inv

pub loop-init : goal.loop-init
loop-init g c = record { same = (refl, refl, refl); others = refl; missed = (0, refl); words = ap (λ (z : TableId). z.words) c.on-pause.ensures.table }

pub returns-in-Ok-clause-ok : goal.returns-in-Ok-clause-ok
returns-in-Ok-clause-ok g c =
    let now = c.loop.self in let inv = c.loop.invariant in record {
      tries = inv.missed.0;
      now = own_steps now;
      missed = inv.missed.1;
      bounds = subst (λ (m : Sizes). Bounds m.threads (own_steps now) (own_steps c.try_bound.new.self) c.in-Ok.bound) inv.same.1 c.in-Ok.ensures.ok;
    }

pub returns-in-Ok-clause-live : goal.returns-in-Ok-clause-live
returns-in-Ok-clause-live g c =
    let me = c.args.self.now in let now = c.loop.self in let inv = c.loop.invariant in let es' = own_steps c.try_bound.new.self in
    let more = times_entries inv.missed.0 me.sizes.threads (own_steps me) (own_steps now) inv.missed.1 in
    sees_since me.sizes me.number (known_of_others me) (own_steps me) more.0 (own_steps now) es' c.in-Ok.bound more.1 more.2
    (subst (λ (z : Sizes × ℕ × List Own). SeesAllLive z.0 z.1 z.2 (own_steps now) es' c.in-Ok.bound) (λ i. (inv.same.1 i, inv.same.0 i, inv.others i)) c.in-Ok.ensures.live)

pub returns-in-Ok-clause-adds : goal.returns-in-Ok-clause-adds
returns-in-Ok-clause-adds g c =
    let me = c.args.self.now in let now = c.loop.self in let inv = c.loop.invariant in
    adds_then me now c.try_bound.new.self [] [] (times_missed_quiet inv.missed.0 me.sizes.threads (own_steps me) (own_steps now) inv.missed.1) c.in-Ok.ensures.adds

pub wait-requires-clause-part : goal.wait-requires-clause-part
wait-requires-clause-part g c =
    let now = c.loop.self in let busy = c.in-Err.held in
    let part : busy.lock ≤ now.sizes.threads = (missed_within now.sizes.threads (own_steps now) (own_steps c.try_bound.new.self) busy c.in-Err.ensures.busy) in
    lock_in_range c.args.board.now c.args.self.now now c.requires c.loop.invariant.same busy.lock part

pub wait-requires-clause-within : goal.wait-requires-clause-within
wait-requires-clause-within g c =
    let now = c.loop.self in let busy = c.in-Err.held in
    let part : busy.lock ≤ now.sizes.threads = (missed_within now.sizes.threads (own_steps now) (own_steps c.try_bound.new.self) busy c.in-Err.ensures.busy) in
    lock_in_table c.args.board.now c.args.self.now now c.requires c.loop.invariant.same busy.lock part _ c.loop.invariant.words

pub wait-requires-room-W-Waiter : goal.wait-requires-room-W-Waiter
wait-requires-room-W-Waiter g c κs within = local_fits _ c.args.self.now.capacity

pub wait-requires-room-W-Waiter-2 : goal.wait-requires-room-W-Waiter-2
wait-requires-room-W-Waiter-2 g c κs within = shared_fits _ c.args.self.now.levels

pub on-pause-requires-room-S-Holding : goal.on-pause-requires-room-S-Holding
on-pause-requires-room-S-Holding g c κs within = local_fits _ c.args.self.now.capacity

pub on-pause-requires-room-S-Holding-2 : goal.on-pause-requires-room-S-Holding-2
on-pause-requires-room-S-Holding-2 g c κs within = shared_fits _ c.args.self.now.levels

pub loop-preserved : goal.loop-preserved
loop-preserved g c =
    let me = c.args.self.now in let now = c.loop.self in let inv = c.loop.invariant in let new = c.try_bound.new.self in let told = c.in-Err.ensures in
    record {
      same = same_then me now new inv.same told.same;
      others = told.others ∙ inv.others;
      missed = (suc inv.missed.0, (own_steps now, c.in-Err.held, inv.missed.1, subst (λ (m : Sizes). MissesSome m.threads (own_steps now) (own_steps new) c.in-Err.held) inv.same.1 told.busy));
      words = c.wait.ensures.words ∙ inv.words;
    }
