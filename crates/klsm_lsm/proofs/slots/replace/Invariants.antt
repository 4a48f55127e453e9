use Rattle.std.proofs.Common.{◌≡◌, ◌-◌, ◌≤◌, ◌++◌, take, drop}
use Rattle.klsm_lsm.proofs.slots.replace.Given as goal

-- the blocks from `last` up to `end` are gone
abbrev pub invariant-loop-last : goal.invariant-loop-last
invariant-loop-last g l = record {
  from_start : l.start ≤ l.last;
  to_end : l.last ≤ l.end;
  gone : l.slots.items ≡ take l.last l.fn.slots.items ++ drop l.end l.fn.slots.items;
}

abbrev pub decreases-loop-last : goal.decreases-loop-last
decreases-loop-last g l = l.last - l.start
