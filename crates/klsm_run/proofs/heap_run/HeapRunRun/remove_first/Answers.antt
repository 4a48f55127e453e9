use Rattle.std.proofs.Common.{◌-◌, ◌≤◌, length, drop, subst, sym, ap, ◌∙◌, arith}
use Rattle.klsm_run.specs.Content.{IsAscending}
use Rattle.klsm_run.specs.Stores.{spanned, HeapState}
use Rattle.klsm_run.proofs.HalfLemmas.{ascending_drop}
use Rattle.klsm_run.proofs.StoreLemmas.{last_kept, length_spanned}
use Rattle.klsm_run.proofs.heap_run.HeapRunRun.remove_first.Goals as goal

pub invariant_of-self : goal.invariant_of-self
invariant_of-self g c =
    let few : c.args.count ≤ length (spanned c.self.inside.span c.self.inside.items.items) = rw (ap (λ (s : HeapState). s.items) c.self.view_is) c.requires in
    let in_store = c.self.invariant.span_in in
    let fewer : c.args.count ≤ c.self.inside.span.end - c.self.inside.span.start = omega (arith, few, length_spanned _ _ in_store) in
    record {
      ascending = subst IsAscending (sym (last_kept _ _ _ fewer)) (ascending_drop c.args.count _ c.self.invariant.ascending);
      span_in = record { order = omega (arith, fewer, in_store.order); within = in_store.within };
      filled = c.self.invariant.filled;
      reserved = c.self.invariant.reserved;
      at_most = c.self.invariant.at_most;
      whole_or_power = c.self.invariant.whole_or_power;
    }

pub returns-clause-rest : goal.returns-clause-rest
returns-clause-rest g c =
    let few : c.args.count ≤ length (spanned c.self.inside.span c.self.inside.items.items) = rw (ap (λ (s : HeapState). s.items) c.self.view_is) c.requires in
    let fewer : c.args.count ≤ c.self.inside.span.end - c.self.inside.span.start = omega (arith, few, length_spanned _ _ c.self.invariant.span_in) in
    last_kept _ _ _ fewer ∙ ap (λ (s : HeapState). drop c.args.count s.items) c.self.view_is
