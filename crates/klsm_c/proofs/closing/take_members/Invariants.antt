use Rattle.std.proofs.Common.{◌≡◌, ◌≤◌, ◌++◌, [], length, map, vec_capacity}
use Rattle.std.specs.Prelude.{take, drop, MatchOption}
use Rattle.std.specs.Arc.{arc_value}
use Rattle.klsm_owned.specs.Owned.{members_of}
use Rattle.klsm_c.specs.Closing.{HasOneOf}
use Rattle.klsm_c.specs.Slots.{held_in, one_after_another}
use Rattle.klsm_c.proofs.closing.take_members.Given as goal

abbrev pub invariant-loop-i : goal.invariant-loop-i
invariant-loop-i l =
    record {
      slots : held_in l.slots ≡ take l.i (map (λ _. []) l.fn.slots) ++ drop l.i (held_in l.fn.slots);
      long : length l.slots ≡ length l.fn.slots;
      members : l.members.items ≡ members_of (one_after_another (take l.i (held_in l.fn.slots)));
      few : length l.members.items ≤ l.i;
      room : length l.fn.slots ≤ vec_capacity l.members;
      board : MatchOption l.last (l.members.items ≡ []) (λ b. HasOneOf (arc_value b) l.members.items);
    }
