use Rattle.std.proofs.Common.{drop, ◌↔◌}
use Rattle.klsm_parts.specs.Events.{SkipsNoneOf}
use Rattle.klsm_world.proofs.conditions.skips_none_of.Given as goal

-- of all items where it is so of those that are left
abbrev pub invariant-loop-other : goal.invariant-loop-other
invariant-loop-other l = SkipsNoneOf l.owner (drop l.other-index l.items) l.item ↔ SkipsNoneOf l.owner l.items l.item
