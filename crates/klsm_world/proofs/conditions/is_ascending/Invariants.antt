use Rattle.std.proofs.Common.{◌↔◌, ◌-◌, drop}
use Rattle.klsm_run.specs.Content.{IsAscending}
use Rattle.klsm_world.proofs.conditions.is_ascending.Given as goal

-- the items before the last compared one are smaller than all behind them
abbrev pub invariant-loop-next : goal.invariant-loop-next
invariant-loop-next l = IsAscending (drop (l.next - 1) l.items) ↔ IsAscending l.items
