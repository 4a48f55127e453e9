use Rattle.std.proofs.Common.{◌≡◌, ℕ, [], length, map, slice_index_or}
use Rattle.klsm_text.proofs.thread_rows.no_rows.Given as goal

abbrev pub invariant-loop : goal.invariant-loop
invariant-loop l = record {
  many : length l.lists.items ≡ l.counter;
  none : (t : ℕ) → slice_index_or (map (λ list. list.items) l.lists.items) t [] ≡ [];
}
