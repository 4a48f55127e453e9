use Rattle.std.proofs.Common.{◌≡◌, ℕ, ◌∙◌, [], ◌∷◌, length, ap, sym, refl, subst, inr, ◌≤◌}
use Rattle.std.specs.List.{flat_map}
use Rattle.klsm_parts.proofs.FitLemmas.{local_fits, shared_fits}
use Rattle.klsm_schedules.specs.OwnSteps.{inserted, inserted_by}
use Rattle.klsm_board.specs.declared.sizes.Sizes.{Sizes}
use Rattle.klsm_board.specs.Boards.{own_steps}
use Rattle.klsm_board.specs.Inserting.{FindsFull, GivesUp, Inserts, LacksRoom, IsBelowLimit, Misses, RefusesInsert, stamp_of, stamped}
use Rattle.klsm_board.proofs.lemmas.calls.MissLemmas.{waits_quiet, waits_more}
use Rattle.klsm_board.proofs.lemmas.calls.WaitLemmas.{same_then, adds_then, first_of_two, busy_not_spent, lock_in_range, lock_in_table, lock_missed}
use Rattle.klsm_board.proofs.board.Member.insert.Goals as goal

pub unreachable-unreachable : goal.unreachable-unreachable
unreachable-unreachable g c = c.unreachable.type_inv

pub returns-in-Ok-clause-stamp : goal.returns-in-Ok-clause-stamp
returns-in-Ok-clause-stamp g c =
    let me = c.args.self.now in let now = c.loop.self in let inv = c.loop.invariant in
    c.in-Ok.ensures.stamp ∙ λ i. stamp_of (inv.same.0 i) (length (flat_map inserted_by (waits_quiet me.number _ (own_steps me) (own_steps now) inv.waits i)))

pub returns-in-Ok-clause-ok : goal.returns-in-Ok-clause-ok
returns-in-Ok-clause-ok g c =
    let now = c.loop.self in let inv = c.loop.invariant in let es' = own_steps c.try_insert.new.self in (
      own_steps now,
      inv.waits,
      subst (λ (z : Sizes × ℕ). Inserts g.row.LEVELS z.0.k z.1 (own_steps now) es' (stamped c.args.key c.in-Ok.stamp c.args.load)) (λ i. (inv.same.1 i, inv.same.0 i)) c.in-Ok.ensures.ok,
    )

pub returns-in-Ok-clause-adds : goal.returns-in-Ok-clause-adds
returns-in-Ok-clause-adds g c =
    let me = c.args.self.now in let now = c.loop.self in let inv = c.loop.invariant in
    adds_then me now c.try_insert.new.self (stamped c.args.key c.in-Ok.stamp c.args.load ∷ []) [] (waits_quiet me.number _ (own_steps me) (own_steps now) inv.waits) c.in-Ok.ensures.adds

pub returns-in-Err-Spent-clause-refused : goal.returns-in-Err-Spent-clause-refused
returns-in-Err-Spent-clause-refused g c =
    let me = c.args.self.now in let now = c.loop.self in let inv = c.loop.invariant in let new = c.try_insert.new.self in let told = c.in-Err-Spent.ensures in
    let quiet = waits_quiet me.number _ (own_steps me) (own_steps now) inv.waits in
    let full : length (inserted (own_steps me)) ≡ me.sizes.quota = sym (ap (λ z. length (flat_map inserted_by z)) quiet) ∙ (told.spent.0 c.in-Err-Spent.field-0-is ∙ ap (λ (z : Sizes). z.quota) inv.same.1) in
    let why = subst (RefusesInsert (length (inserted (own_steps now)) ≡ now.sizes.quota) g.row.LEVELS now.sizes.k now.number (own_steps now) (own_steps new)) c.in-Err-Spent.field-0-is told.refused.1 in
    (adds_then me now new [] [] quiet told.refused.0, (full, why.1 ∙ first_of_two inv.first full))

pub returns-in-Err-Spent-clause-spent : goal.returns-in-Err-Spent-clause-spent
returns-in-Err-Spent-clause-spent g c =
    let me = c.args.self.now in let now = c.loop.self in let inv = c.loop.invariant in
    let quiet = waits_quiet me.number _ (own_steps me) (own_steps now) inv.waits in
    let full : length (inserted (own_steps me)) ≡ me.sizes.quota = sym (ap (λ z. length (flat_map inserted_by z)) quiet) ∙ (c.in-Err-Spent.ensures.spent.0 c.in-Err-Spent.field-0-is ∙ ap (λ (z : Sizes). z.quota) inv.same.1) in
    (λ is. full, λ is. refl)

pub returns-in-Err-Full-clause-refused : goal.returns-in-Err-Full-clause-refused
returns-in-Err-Full-clause-refused g c =
    let me = c.args.self.now in let now = c.loop.self in let inv = c.loop.invariant in let new = c.try_insert.new.self in let told = c.in-Err-Full.ensures in
    let why = subst (RefusesInsert (length (inserted (own_steps now)) ≡ now.sizes.quota) g.row.LEVELS now.sizes.k now.number (own_steps now) (own_steps new)) c.in-Err-Full.field-0-is told.refused.1 in (
      adds_then me now new [] [] (waits_quiet me.number _ (own_steps me) (own_steps now) inv.waits) told.refused.0,
      (own_steps now, inv.waits, subst (λ (z : Sizes × ℕ). GivesUp z.0.k z.1 (own_steps now) (own_steps new) (LacksRoom g.row.LEVELS z.0.k)) (λ i. (inv.same.1 i, inv.same.0 i)) why),
    )

pub returns-in-Err-NoMemory-clause-refused : goal.returns-in-Err-NoMemory-clause-refused
returns-in-Err-NoMemory-clause-refused g c =
    let me = c.args.self.now in let now = c.loop.self in let inv = c.loop.invariant in let new = c.try_insert.new.self in let told = c.in-Err-NoMemory.ensures in
    let why = subst (RefusesInsert (length (inserted (own_steps now)) ≡ now.sizes.quota) g.row.LEVELS now.sizes.k now.number (own_steps now) (own_steps new)) c.in-Err-NoMemory.field-0-is told.refused.1 in (
      adds_then me now new [] [] (waits_quiet me.number _ (own_steps me) (own_steps now) inv.waits) told.refused.0,
      (own_steps now, inv.waits, subst (λ (z : Sizes × ℕ). GivesUp z.0.k z.1 (own_steps now) (own_steps new) (IsBelowLimit g.row.LEVELS)) (λ i. (inv.same.1 i, inv.same.0 i)) why),
    )

pub wait-requires-clause-part : goal.wait-requires-clause-part
wait-requires-clause-part g c =
    let now = c.loop.self in let busy = c.in-Err-Busy.busy in
    let part : busy.lock ≤ now.sizes.threads = (lock_missed now.number now.sizes.threads (FindsFull now.sizes.k) (own_steps now) (own_steps c.try_insert.new.self) busy now.rests.thread (subst (RefusesInsert (length (inserted (own_steps now)) ≡ now.sizes.quota) g.row.LEVELS now.sizes.k now.number (own_steps now) (own_steps c.try_insert.new.self)) c.in-Err-Busy.field-0-is c.in-Err-Busy.ensures.refused.1)) in
    lock_in_range c.args.board.now c.args.self.now now c.requires c.loop.invariant.same busy.lock part

pub wait-requires-clause-within : goal.wait-requires-clause-within
wait-requires-clause-within g c =
    let now = c.loop.self in let busy = c.in-Err-Busy.busy in
    let part : busy.lock ≤ now.sizes.threads = (lock_missed now.number now.sizes.threads (FindsFull now.sizes.k) (own_steps now) (own_steps c.try_insert.new.self) busy now.rests.thread (subst (RefusesInsert (length (inserted (own_steps now)) ≡ now.sizes.quota) g.row.LEVELS now.sizes.k now.number (own_steps now) (own_steps c.try_insert.new.self)) c.in-Err-Busy.field-0-is c.in-Err-Busy.ensures.refused.1)) in
    lock_in_table c.args.board.now c.args.self.now now c.requires c.loop.invariant.same busy.lock part _ c.loop.invariant.words

pub wait-requires-room-W-Waiter : goal.wait-requires-room-W-Waiter
wait-requires-room-W-Waiter g c κs within = local_fits _ c.args.self.now.capacity

pub wait-requires-room-W-Waiter-2 : goal.wait-requires-room-W-Waiter-2
wait-requires-room-W-Waiter-2 g c κs within = shared_fits _ c.args.self.now.levels

pub on-pause-requires-room-S-Holding : goal.on-pause-requires-room-S-Holding
on-pause-requires-room-S-Holding g c κs within = local_fits _ c.args.self.now.capacity

pub on-pause-requires-room-S-Holding-2 : goal.on-pause-requires-room-S-Holding-2
on-pause-requires-room-S-Holding-2 g c κs within = shared_fits _ c.args.self.now.levels

pub loop-preserved : goal.loop-preserved
loop-preserved g c =
    let me = c.args.self.now in let now = c.loop.self in let inv = c.loop.invariant in let new = c.try_insert.new.self in let told = c.in-Err-Busy.ensures in let busy = c.in-Err-Busy.busy in
    let quiet = waits_quiet me.number _ (own_steps me) (own_steps now) inv.waits in
    let why = subst (RefusesInsert (length (inserted (own_steps now)) ≡ now.sizes.quota) g.row.LEVELS now.sizes.k now.number (own_steps now) (own_steps new)) c.in-Err-Busy.field-0-is told.refused.1 in
    record {
      same = same_then me now new inv.same told.same;
      others = told.others ∙ inv.others;
      waits = waits_more me.number (FindsFull me.sizes.k) (own_steps me) (own_steps now) (own_steps new) busy inv.waits
          (subst (λ (z : Sizes × ℕ). Misses z.1 (FindsFull z.0.k) (own_steps now) (own_steps new) busy) (λ i. (inv.same.1 i, inv.same.0 i)) why);
      first = inr (λ full. busy_not_spent busy (sym c.in-Err-Busy.field-0-is ∙ told.spent.1 (ap (λ z. length (flat_map inserted_by z)) quiet ∙ (full ∙ sym (ap (λ (z : Sizes). z.quota) inv.same.1)))));
      words = c.wait.ensures.words ∙ inv.words;
    }
