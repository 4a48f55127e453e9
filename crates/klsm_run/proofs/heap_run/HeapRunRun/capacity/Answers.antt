use Rattle.std.proofs.Common.{◌≤◌, length, arith, rules}
use Rattle.klsm_run.specs.Stores.{spanned}
use Rattle.klsm_run.proofs.StoreLemmas.{run_capacity, length_spanned}
use Rattle.klsm_run.proofs.heap_run.HeapRunRun.capacity.Goals as goal

pub returns-clause-lawful : goal.returns-clause-lawful
returns-clause-lawful g c =
    let count = length_spanned c.self.inside.span c.self.inside.items.items c.self.invariant.span_in in
    let holds : length (spanned c.self.inside.span c.self.inside.items.items) ≤ c.self.inside.places = omega (arith, count, c.self.invariant.span_in.within, c.self.invariant.filled) in
    rw (← c.self.view_is) (run_capacity _ _ _ c.self.invariant.at_most holds c.self.invariant.whole_or_power)

pub returns-clause-capacity : goal.returns-clause-capacity
returns-clause-capacity g c = search rules
