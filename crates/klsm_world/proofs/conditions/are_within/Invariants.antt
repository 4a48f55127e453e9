use Rattle.std.proofs.Common.{◌<◌, ◌↔◌, drop}
use Rattle.std.specs.List.{AllByRecursion}
use Rattle.klsm_parts.specs.Events.{times}
use Rattle.klsm_world.proofs.conditions.are_within.Given as goal

-- all of the items seen are among the others
abbrev pub invariant-loop-item : goal.invariant-loop-item
invariant-loop-item l = AllByRecursion (λ x. 0 < times x l.items) (drop l.item-index l.moved) ↔ AllByRecursion (λ x. 0 < times x l.items) l.moved
