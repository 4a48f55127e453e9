use Rattle.std.proofs.Common.{◌≡◌, drop}
use Rattle.klsm_parts.specs.Events.{minus}
use Rattle.klsm_world.proofs.contents.remove_all_from.Given as goal

-- the others are still to be taken out
abbrev pub invariant-loop-item : goal.invariant-loop-item
invariant-loop-item g l = minus l.fn.items.items l.leaving ≡ minus l.items.items (drop l.item-index l.leaving)
