use Rattle.std.proofs.Common.{◌≡◌, ◌++◌, length, map}
use Rattle.std.specs.Prelude.{take, drop}
use Rattle.klsm_c.specs.Slots.{alone, held_in}
use Rattle.klsm_c.proofs.opening.fill_front.Given as goal

abbrev pub invariant-loop-i : goal.invariant-loop-i
invariant-loop-i l =
    record {
      slots : held_in l.slots ≡ take l.i (map alone (map (λ b. b.value) l.fn.members.items)) ++ drop l.i (held_in l.fn.slots);
      members : l.members.items ≡ drop l.i l.fn.members.items;
      same : length l.slots ≡ length l.fn.slots;
    }
