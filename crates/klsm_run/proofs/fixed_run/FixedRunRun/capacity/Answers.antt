use Rattle.std.proofs.Common.{◌≤◌, length, inl, refl, arith}
use Rattle.klsm_run.specs.Stores.{spanned}
use Rattle.klsm_run.proofs.StoreLemmas.{run_capacity, length_spanned}
use Rattle.klsm_run.proofs.fixed_run.FixedRunRun.capacity.Goals as goal

pub returns-clause-lawful : goal.returns-clause-lawful
returns-clause-lawful g c =
    let in_store = c.self.invariant.span_in in
    let count = length_spanned c.self.inside.span c.self.inside.items.items record { order = in_store.order; within = omega (arith, in_store.within, c.self.invariant.full) } in
    let holds : length (spanned c.self.inside.span c.self.inside.items.items) ≤ g.row.CAP = omega (arith, count, in_store.within) in
    rw (← c.self.view_is) (run_capacity _ _ _ (omega arith) holds (inl refl))
