use Rattle.std.proofs.Common.{◌≡◌, ◌++◌, [], map}
use Rattle.std.specs.Prelude.{take, drop}
use Rattle.klsm_c.specs.Slots.{held_in}
use Rattle.klsm_c.proofs.closing.close_all.Given as goal

abbrev pub invariant-loop-i : goal.invariant-loop-i
invariant-loop-i l = held_in l.slots ≡ take l.i (map (λ _. []) l.fn.slots) ++ drop l.i (held_in l.fn.slots)
