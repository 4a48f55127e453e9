use Rattle.std.proofs.Common.{◌≡◌, ◌≤◌, ◌*◌, ◌^◌, take}
use Rattle.std.specs.List.{flat_map}
use Rattle.klsm_run.specs.Content.{skipped}
use Rattle.klsm_world.proofs.contents.count_all_smaller.Given as goal

-- the contents so far are counted, each of which fits into memory
abbrev pub invariant-loop-content : goal.invariant-loop-content
invariant-loop-content g l = record {
  counted : l.count ≡ skipped (flat_map (λ c. c) (take l.content-index l.contents)) l.item;
  bounded : l.count ≤ 2 ^ 58 * l.content-index;
}
