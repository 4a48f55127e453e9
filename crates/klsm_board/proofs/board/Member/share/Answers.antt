use Rattle.std.proofs.Common.{◌∙◌, [], subst, ◌≤◌}
use Rattle.klsm_parts.proofs.FitLemmas.{local_fits, shared_fits}
use Rattle.klsm_board.specs.Boards.{own_steps}
use Rattle.klsm_board.specs.Inserting.{Misses}
use Rattle.klsm_board.specs.Sharing.{FindsSome, HasRoomFor, KeepsAll, LacksRoomFor, RefusesShare, Shares}
use Rattle.klsm_board.proofs.lemmas.calls.MissLemmas.{waits_quiet, waits_more}
use Rattle.klsm_board.proofs.lemmas.calls.WaitLemmas.{same_then, adds_then, lock_in_range, lock_in_table, lock_missed}
use Rattle.klsm_board.proofs.board.Member.share.Goals as goal

pub unreachable-unreachable : goal.unreachable-unreachable
unreachable-unreachable g c = c.unreachable.type_inv

pub returns-in-Ok-clause-ok : goal.returns-in-Ok-clause-ok
returns-in-Ok-clause-ok g c =
    let now = c.loop.self in let inv = c.loop.invariant in
    (own_steps now, inv.waits, subst (λ n. Shares g.row.LEVELS n (own_steps now) (own_steps c.try_share.new.self) c.in-Ok.count) inv.same.0 c.in-Ok.ensures.ok)

pub returns-in-Ok-clause-adds : goal.returns-in-Ok-clause-adds
returns-in-Ok-clause-adds g c =
    let me = c.args.self.now in let now = c.loop.self in let inv = c.loop.invariant in
    adds_then me now c.try_share.new.self [] [] (waits_quiet me.number _ (own_steps me) (own_steps now) inv.waits) c.in-Ok.ensures.adds

pub returns-in-Err-Full-clause-refused : goal.returns-in-Err-Full-clause-refused
returns-in-Err-Full-clause-refused g c =
    let now = c.loop.self in let inv = c.loop.invariant in let new = c.try_share.new.self in
    let why = subst (RefusesShare g.row.LEVELS now.number (own_steps now) (own_steps new)) c.in-Err-Full.field-0-is c.in-Err-Full.ensures.refused in
    (own_steps now, inv.waits, subst (λ n. KeepsAll n (own_steps now) (own_steps new) (LacksRoomFor g.row.LEVELS)) inv.same.0 why)

pub returns-in-Err-Full-clause-adds : goal.returns-in-Err-Full-clause-adds
returns-in-Err-Full-clause-adds g c =
    let me = c.args.self.now in let now = c.loop.self in let inv = c.loop.invariant in
    adds_then me now c.try_share.new.self [] [] (waits_quiet me.number _ (own_steps me) (own_steps now) inv.waits) c.in-Err-Full.ensures.adds

pub returns-in-Err-NoMemory-clause-refused : goal.returns-in-Err-NoMemory-clause-refused
returns-in-Err-NoMemory-clause-refused g c =
    let now = c.loop.self in let inv = c.loop.invariant in let new = c.try_share.new.self in
    let why = subst (RefusesShare g.row.LEVELS now.number (own_steps now) (own_steps new)) c.in-Err-NoMemory.field-0-is c.in-Err-NoMemory.ensures.refused in
    (own_steps now, inv.waits, subst (λ n. KeepsAll n (own_steps now) (own_steps new) (HasRoomFor g.row.LEVELS)) inv.same.0 why)

pub returns-in-Err-NoMemory-clause-adds : goal.returns-in-Err-NoMemory-clause-adds
returns-in-Err-NoMemory-clause-adds g c =
    let me = c.args.self.now in let now = c.loop.self in let inv = c.loop.invariant in
    adds_then me now c.try_share.new.self [] [] (waits_quiet me.number _ (own_steps me) (own_steps now) inv.waits) c.in-Err-NoMemory.ensures.adds

pub wait-requires-clause-part : goal.wait-requires-clause-part
wait-requires-clause-part g c =
    let now = c.loop.self in let busy = c.in-Err-Busy.busy in
    let part : busy.lock ≤ now.sizes.threads = (lock_missed now.number now.sizes.threads FindsSome (own_steps now) (own_steps c.try_share.new.self) busy now.rests.thread (subst (RefusesShare g.row.LEVELS now.number (own_steps now) (own_steps c.try_share.new.self)) c.in-Err-Busy.field-0-is c.in-Err-Busy.ensures.refused)) in
    lock_in_range c.args.board.now c.args.self.now now c.requires c.loop.invariant.same busy.lock part

pub wait-requires-clause-within : goal.wait-requires-clause-within
wait-requires-clause-within g c =
    let now = c.loop.self in let busy = c.in-Err-Busy.busy in
    let part : busy.lock ≤ now.sizes.threads = (lock_missed now.number now.sizes.threads FindsSome (own_steps now) (own_steps c.try_share.new.self) busy now.rests.thread (subst (RefusesShare g.row.LEVELS now.number (own_steps now) (own_steps c.try_share.new.self)) c.in-Err-Busy.field-0-is c.in-Err-Busy.ensures.refused)) in
    lock_in_table c.args.board.now c.args.self.now now c.requires c.loop.invariant.same busy.lock part _ c.loop.invariant.words

pub wait-requires-room-W-Waiter : goal.wait-requires-room-W-Waiter
wait-requires-room-W-Waiter g c κs within = local_fits _ c.args.self.now.capacity

pub wait-requires-room-W-Waiter-2 : goal.wait-requires-room-W-Waiter-2
wait-requires-room-W-Waiter-2 g c κs within = shared_fits _ c.args.self.now.levels

pub on-pause-requires-room-S-Holding : goal.on-pause-requires-room-S-Holding
on-pause-requires-room-S-Holding g c κs within = local_fits _ c.args.self.now.capacity

pub on-pause-requires-room-S-Holding-2 : goal.on-pause-requires-room-S-Holding-2
on-pause-requires-room-S-Holding-2 g c κs within = shared_fits _ c.args.self.now.levels

pub loop-preserved : goal.loop-preserved
loop-preserved g c =
    let me = c.args.self.now in let now = c.loop.self in let inv = c.loop.invariant in let new = c.try_share.new.self in let told = c.in-Err-Busy.ensures in let busy = c.in-Err-Busy.busy in
    let why = subst (RefusesShare g.row.LEVELS now.number (own_steps now) (own_steps new)) c.in-Err-Busy.field-0-is told.refused in
    record {
      same = same_then me now new inv.same told.same;
      others = told.others ∙ inv.others;
      waits = waits_more me.number FindsSome (own_steps me) (own_steps now) (own_steps new) busy inv.waits (subst (λ n. Misses n FindsSome (own_steps now) (own_steps new) busy) inv.same.0 why);
      words = c.wait.ensures.words ∙ inv.words;
    }
