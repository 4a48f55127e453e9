use Rattle.std.proofs.Common.{rules, ◌<◌, subst}
use Rattle.klsm_run.specs.declared.limits.TheConstants.{MOST_THREADS}
use Rattle.klsm_c.specs.Slots.{AreClosed}
use Rattle.klsm_c.proofs.SlotLemmas.{closed_are_whole, closed_own_none}
use Rattle.klsm_c.proofs.queue.Queue.closed.Goals as goal

pub invariant_of-result : goal.invariant_of-result
invariant_of-result c =
    let closed : AreClosed c.from_fn.result = λ k d h. (let within : k < MOST_THREADS = subst (λ n. k < n) c.from_fn.ensures.items.long h in let made = (c.from_fn.ensures.items.at k d within).2 in search rules) in
    record { whole = closed_are_whole c.from_fn.result closed }

pub returns : goal.returns
returns c =
    let closed : AreClosed c.from_fn.result = λ k d h. (let within : k < MOST_THREADS = subst (λ n. k < n) c.from_fn.ensures.items.long h in let made = (c.from_fn.ensures.items.at k d within).2 in search rules) in
    closed_own_none c.from_fn.result closed
