use Rattle.std.proofs.Common.{◌≡◌, ◌≤◌, [], replicate}
use Rattle.std.specs.Vec.{vec_capacity, vec_len}
use Rattle.klsm_world.proofs.world.empty_contents.Given as goal

-- so many are there, and there is room for all
abbrev pub invariant-loop : goal.invariant-loop
invariant-loop g l = record {
  empty : l.contents.items ≡ replicate l.counter [];
  counted : vec_len l.contents ≡ l.counter;
  room : l.parts ≤ vec_capacity l.contents;
}
