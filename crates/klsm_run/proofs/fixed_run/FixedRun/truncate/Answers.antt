use Rattle.std.proofs.Common.{◌-◌, ◌≤◌, length, take, subst, sym, ap, ◌∙◌, arith}
use Rattle.klsm_run.specs.Content.{IsAscending}
use Rattle.klsm_run.specs.Stores.{spanned}
use Rattle.klsm_run.proofs.HalfLemmas.{ascending_take}
use Rattle.klsm_run.proofs.StoreLemmas.{first_kept, fixed_count}
use Rattle.klsm_run.proofs.fixed_run.FixedRun.truncate.Goals as goal

pub invariant_of-self : goal.invariant_of-self
invariant_of-self g c =
    let few : c.args.count ≤ length (spanned c.self.inside.span c.self.inside.items.items) = rw c.self.view_is c.requires in
    let stored = c.self.inside.items.items in
    let start = c.self.inside.span.start in
    let in_store = c.self.invariant.span_in in
    let fewer : c.args.count ≤ c.self.inside.span.end - start = omega (arith, few, fixed_count c.self.invariant) in
    record {
      ascending = subst IsAscending (sym (first_kept _ _ _ fewer)) (ascending_take c.args.count _ c.self.invariant.ascending);
      span_in = record { order = omega arith; within = omega (arith, fewer, in_store.order, in_store.within) };
      full = c.self.invariant.full;
      capacity_in_range = c.self.invariant.capacity_in_range;
    }

pub returns : goal.returns
returns g c =
    let few : c.args.count ≤ length (spanned c.self.inside.span c.self.inside.items.items) = rw c.self.view_is c.requires in
    let fewer : c.args.count ≤ c.self.inside.span.end - c.self.inside.span.start = omega (arith, few, fixed_count c.self.invariant) in
    first_kept _ _ _ fewer ∙ ap (take c.args.count) c.self.view_is
