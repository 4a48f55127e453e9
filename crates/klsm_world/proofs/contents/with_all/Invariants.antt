use Rattle.std.proofs.Common.{◌≡◌, ◌≤◌, ◌+◌, ◌++◌, length, drop}
use Rattle.std.specs.Vec.{vec_capacity, vec_len}
use Rattle.klsm_run.specs.Content.{sorted}
use Rattle.klsm_world.proofs.contents.with_all.Given as goal

-- what is there and the others, sorted, are all items
abbrev pub invariant-loop-item : goal.invariant-loop-item
invariant-loop-item g l = record {
  within : l.at ≤ length l.items;
  room : vec_len l.all + length l.items + length l.joining ≤ vec_capacity l.all + l.at + l.item-index;
  merged : sorted (l.joining ++ l.items) ≡ l.all.items ++ sorted (drop l.item-index l.joining ++ drop l.at l.items);
}
