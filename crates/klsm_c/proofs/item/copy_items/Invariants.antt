use Rattle.std.proofs.Common.{◌≡◌, ◌++◌, map}
use Rattle.std.specs.Prelude.{take, drop}
use Rattle.klsm_c.specs.Items.{plain_of}
use Rattle.klsm_c.proofs.item.copy_items.Given as goal

abbrev pub invariant-loop-i : goal.invariant-loop-i
invariant-loop-i l = l.room ≡ take l.i (map plain_of l.items) ++ drop l.i l.fn.room
