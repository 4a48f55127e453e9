use Rattle.std.proofs.Common.{◌<◌, ◌↔◌, ◌∷◌, drop}
use Rattle.std.specs.List.{AllByRecursion}
use Rattle.klsm_parts.specs.Events.{times}
use Rattle.klsm_world.proofs.conditions.may_flush.Given as goal

-- all of the items seen are in the own part with the item
abbrev pub invariant-loop-one : goal.invariant-loop-one
invariant-loop-one l = AllByRecursion (λ x. 0 < times x (l.item ∷ l.own)) (drop l.one-index l.moved) ↔ AllByRecursion (λ x. 0 < times x (l.item ∷ l.own)) l.moved
