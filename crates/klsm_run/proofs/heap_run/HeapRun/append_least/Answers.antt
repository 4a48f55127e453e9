use Rattle.std.proofs.Common.{◌≡◌, ◌∙◌, ap, sym, subst, ◌++◌, length, drop, arith}
use Rattle.klsm_run.specs.Content.{sorted, IsAscending}
use Rattle.klsm_run.specs.Stores.{HeapState}
use Rattle.klsm_run.proofs.StoreLemmas.{spanned_grown, ascending_front}
use Rattle.klsm_run.proofs.heap_run.HeapRun.append_least.Goals as goal

pub invariant_of-self : goal.invariant_of-self
invariant_of-self g c =
    let cleared = c.clear_behind-self-inside in
    let new = c.push_least-counts.new.store in
    let rest = sorted (drop c.push_least-counts.result.0 c.args.left.now ++ drop c.push_least-counts.result.1 c.args.right.now) in
    let whole = sorted (c.args.left.now ++ c.args.right.now) in
    let end : c.len-self-inside.result ≡ length new.items = c.len-self-inside.ensures ∙ new.ok.0 in
    let grown = spanned_grown cleared.result c.len-self-inside.result cleared.new.store.items new.items rest whole cleared.ensures.order (sym cleared.ensures.end) end (omega (arith, c.push_least-counts.ensures.len)) c.push_least-counts.ensures.items in
    let run = cleared.ensures.items ∙ ap (λ (s : HeapState). s.items) c.self.view_is in
    record {
      ascending = ascending_front _ rest (subst IsAscending (sym (grown ∙ ap (λ xs. xs ++ whole) run)) c.requires.ascending);
      span_in = record { order = omega (arith, end, c.push_least-counts.ensures.len, cleared.ensures.end, cleared.ensures.order); within = omega (arith, end) };
      filled = omega (arith, c.push_least-counts.ensures.len, c.push_least-counts.ensures.within.0, c.push_least-counts.ensures.within.1, cleared.ensures.end, cleared.ensures.room);
      reserved = omega (arith, c.self.invariant.reserved, cleared.ensures.capacity, c.push_least-counts.ensures.capacity);
      at_most = c.self.invariant.at_most;
      whole_or_power = c.self.invariant.whole_or_power;
    }

pub returns-clause-items : goal.returns-clause-items
returns-clause-items g c =
    let cleared = c.clear_behind-self-inside in
    let new = c.push_least-counts.new.store in
    let rest = sorted (drop c.push_least-counts.result.0 c.args.left.now ++ drop c.push_least-counts.result.1 c.args.right.now) in
    let whole = sorted (c.args.left.now ++ c.args.right.now) in
    let end : c.len-self-inside.result ≡ length new.items = c.len-self-inside.ensures ∙ new.ok.0 in
    let grown = spanned_grown cleared.result c.len-self-inside.result cleared.new.store.items new.items rest whole cleared.ensures.order (sym cleared.ensures.end) end (omega (arith, c.push_least-counts.ensures.len)) c.push_least-counts.ensures.items in
    grown ∙ ap (λ xs. xs ++ whole) (cleared.ensures.items ∙ ap (λ (s : HeapState). s.items) c.self.view_is)
