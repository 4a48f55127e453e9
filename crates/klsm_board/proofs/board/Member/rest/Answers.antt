use Rattle.std.proofs.Common.{suc, ◌≤◌, ◌∙◌, [], refl, subst, arith, ap}
use Rattle.atomic_table.specs.Seated.{TableId}
use Rattle.klsm_parts.proofs.FitLemmas.{local_fits, shared_fits}
use Rattle.klsm_board.specs.Boards.{own_steps}
use Rattle.klsm_board.specs.Resting.{MissesRest, Rests}
use Rattle.klsm_board.proofs.lemmas.calls.RestingLemmas.{rest_times_quiet}
use Rattle.klsm_board.proofs.lemmas.calls.WaitLemmas.{same_then, adds_then, lock_in_range, lock_in_table}
use Rattle.klsm_board.proofs.board.Member.rest.Goals as goal

pub unreachable-unreachable : goal.unreachable-unreachable
unreachable-unreachable g c = c.unreachable.type_inv

pub loop-init : goal.loop-init
loop-init g c = record { same = (refl, refl, refl); others = refl; missed = (0, refl); words = ap (λ (z : TableId). z.words) c.on-pause.ensures.table }

pub returns-in-Ok-clause-ok : goal.returns-in-Ok-clause-ok
returns-in-Ok-clause-ok g c =
    let now = c.loop.self in let inv = c.loop.invariant in record {
      tries = inv.missed.0;
      now = own_steps now;
      missed = inv.missed.1;
      rests = subst (λ t. Rests t (own_steps now) (own_steps c.try_rest.new.self)) inv.same.0 c.in-Ok.ensures.ok;
    }

pub returns-in-Ok-clause-adds : goal.returns-in-Ok-clause-adds
returns-in-Ok-clause-adds g c =
    let me = c.args.self.now in let now = c.loop.self in let inv = c.loop.invariant in
    adds_then me now c.try_rest.new.self [] [] (rest_times_quiet inv.missed.0 me.number (own_steps me) (own_steps now) inv.missed.1) c.in-Ok.ensures.adds

pub wait-requires-clause-part : goal.wait-requires-clause-part
wait-requires-clause-part g c =
    let now = c.loop.self in let busy = c.in-Err.taken in
    let part : busy.lock ≤ now.sizes.threads = (let lock = c.in-Err.ensures.busy.0 in let thread = now.rests.thread in omega (arith, lock, thread)) in
    lock_in_range c.args.board.now c.args.self.now now c.requires c.loop.invariant.same busy.lock part

pub wait-requires-clause-within : goal.wait-requires-clause-within
wait-requires-clause-within g c =
    let now = c.loop.self in let busy = c.in-Err.taken in
    let part : busy.lock ≤ now.sizes.threads = (let lock = c.in-Err.ensures.busy.0 in let thread = now.rests.thread in omega (arith, lock, thread)) in
    lock_in_table c.args.board.now c.args.self.now now c.requires c.loop.invariant.same busy.lock part _ c.loop.invariant.words

pub wait-requires-room-W-Waiter : goal.wait-requires-room-W-Waiter
wait-requires-room-W-Waiter g c κs within = local_fits _ c.args.self.now.capacity

pub wait-requires-room-W-Waiter-2 : goal.wait-requires-room-W-Waiter-2
wait-requires-room-W-Waiter-2 g c κs within = shared_fits _ c.args.self.now.levels

pub on-pause-requires-room-S-Holding : goal.on-pause-requires-room-S-Holding
on-pause-requires-room-S-Holding g c κs within = local_fits _ c.args.self.now.capacity

pub on-pause-requires-room-S-Holding-2 : goal.on-pause-requires-room-S-Holding-2
on-pause-requires-room-S-Holding-2 g c κs within = shared_fits _ c.args.self.now.levels

pub loop-preserved : goal.loop-preserved
loop-preserved g c =
    let me = c.args.self.now in let now = c.loop.self in let inv = c.loop.invariant in let new = c.try_rest.new.self in let told = c.in-Err.ensures in
    record {
      same = same_then me now new inv.same told.same;
      others = told.others ∙ inv.others;
      missed = (suc inv.missed.0, (own_steps now, c.in-Err.taken, inv.missed.1, subst (λ t. MissesRest t (own_steps now) (own_steps new) c.in-Err.taken) inv.same.0 told.busy));
      words = c.wait.ensures.words ∙ inv.words;
    }
