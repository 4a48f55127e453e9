use Rattle.std.proofs.Common.{◌≡◌, ◌++◌, length}
use Rattle.klsm_parts.specs.Queues.{items_of}
use Rattle.klsm_scheduler.proofs.order_of.Given as goal

-- the jobs that were given, and behind them those that wait, are the jobs that there were
abbrev pub invariant-loop-job : goal.invariant-loop-job
invariant-loop-job l = l.order.items ++ items_of l.waiting ≡ items_of l.initial.waiting

abbrev pub decreases-loop-job : goal.decreases-loop-job
decreases-loop-job l = length (items_of l.waiting)
