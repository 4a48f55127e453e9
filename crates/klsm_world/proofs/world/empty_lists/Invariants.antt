use Rattle.std.proofs.Common.{◌≡◌, ◌≤◌, [], replicate}
use Rattle.std.specs.Vec.{vec_capacity, vec_len}
use Rattle.klsm_world.proofs.world.empty_lists.Given as goal

-- so many are there, and there is room for all
abbrev pub invariant-loop : goal.invariant-loop
invariant-loop g l = record {
  empty : l.lists.items ≡ replicate l.counter [];
  counted : vec_len l.lists ≡ l.counter;
  room : l.threads ≤ vec_capacity l.lists;
}
