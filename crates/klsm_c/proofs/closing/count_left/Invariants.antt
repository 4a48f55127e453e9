use Rattle.std.proofs.Common.{◌≡◌, ◌≤◌, ◌*◌, length}
use Rattle.std.specs.Prelude.{take}
use Rattle.std.specs.List.{flat_map}
use Rattle.klsm_schedules.specs.OwnSteps.{deleted, inserted}
use Rattle.klsm_board.specs.Members.{most_deletions, most_insertions}
use Rattle.klsm_c.specs.Closing.{all_steps}
use Rattle.klsm_c.specs.Slots.{held_in, one_after_another}
use Rattle.klsm_c.proofs.closing.count_left.Given as goal

abbrev pub invariant-loop-i : goal.invariant-loop-i
invariant-loop-i l =
    record {
      same : held_in l.slots ≡ held_in l.fn.slots;
      long : length l.slots ≡ length l.fn.slots;
      insertions : l.inserted ≡ length (flat_map inserted (all_steps (one_after_another (take l.i (held_in l.fn.slots)))));
      deletions : l.deleted ≡ length (flat_map deleted (all_steps (one_after_another (take l.i (held_in l.fn.slots)))));
      few_insertions : l.inserted ≤ l.i * most_insertions;
      few_deletions : l.deleted ≤ l.i * most_deletions;
    }
