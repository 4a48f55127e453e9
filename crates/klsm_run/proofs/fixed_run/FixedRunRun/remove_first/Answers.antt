use Rattle.std.proofs.Common.{◌-◌, ◌≤◌, length, drop, subst, sym, ap, ◌∙◌, arith}
use Rattle.klsm_run.specs.Content.{IsAscending}
use Rattle.klsm_run.specs.Stores.{spanned}
use Rattle.klsm_run.proofs.HalfLemmas.{ascending_drop}
use Rattle.klsm_run.proofs.StoreLemmas.{last_kept, fixed_count}
use Rattle.klsm_run.proofs.fixed_run.FixedRunRun.remove_first.Goals as goal

pub invariant_of-self : goal.invariant_of-self
invariant_of-self g c =
    let few : c.args.count ≤ length (spanned c.self.inside.span c.self.inside.items.items) = rw c.self.view_is c.requires in
    let in_store = c.self.invariant.span_in in
    let fewer : c.args.count ≤ c.self.inside.span.end - c.self.inside.span.start = omega (arith, few, fixed_count c.self.invariant) in
    record {
      ascending = subst IsAscending (sym (last_kept _ _ _ fewer)) (ascending_drop c.args.count _ c.self.invariant.ascending);
      span_in = record { order = omega (arith, fewer, in_store.order); within = in_store.within };
      full = c.self.invariant.full;
      capacity_in_range = c.self.invariant.capacity_in_range;
    }

pub returns-clause-rest : goal.returns-clause-rest
returns-clause-rest g c =
    let few : c.args.count ≤ length (spanned c.self.inside.span c.self.inside.items.items) = rw c.self.view_is c.requires in
    let fewer : c.args.count ≤ c.self.inside.span.end - c.self.inside.span.start = omega (arith, few, fixed_count c.self.invariant) in
    last_kept _ _ _ fewer ∙ ap (drop c.args.count) c.self.view_is
