use Rattle.std.proofs.Common.{◌≡◌, ◌≤◌, ◌<◌, ℕ, [], length, slice_index_or, vec_capacity}
use mathlib.Core.Option.{some}
use lib.ListN.{get_elem?}
use Rattle.klsm_board.specs.declared.board.Member.{Member}
use Rattle.klsm_board.specs.Boards.{IsOf, own_steps}
use Rattle.klsm_board.specs.Knowing.{IsAtRest}
use Rattle.klsm_board.specs.Turning.{HasList, steps_known}
use Rattle.klsm_board.proofs.all_members.AllMembers.spread.Given as goal

-- the seat knows the lists of this number and those behind it, and each member before has its own
abbrev pub invariant-loop-number : goal.invariant-loop-number
invariant-loop-number g l = record {
  of_table : l.seat.table_id ≡ l.board.table.shared.table_id;
  none : l.seat.me.1 ≡ [];
  has : (t : ℕ) → l.number ≤ t → t < l.fn.self.acting.sizes.threads → HasList l.seat.me.0.lists t;
  same : (t : ℕ) → l.number ≤ t → t < l.fn.self.acting.sizes.threads → steps_known l.seat.me.0.lists t ≡ steps_known l.fn.self.acting.seat.me.0.lists t;
  rests : (t : ℕ) → t < l.fn.self.acting.sizes.threads → IsAtRest l.board.sizes t (steps_known l.fn.self.acting.seat.me.0.lists t) (slice_index_or l.tally.inserted t 0) (slice_index_or l.tally.deleted t 0);
  room : l.fn.self.acting.sizes.threads ≤ vec_capacity l.members;
  count : length l.members.items ≡ l.number;
  members : (i : ℕ) (member : Member g.row.CAP g.row.LEVELS) → get_elem? l.members.items i ≡ some member
      → (member.number ≡ i) × IsOf member l.board × (own_steps member ≡ steps_known l.fn.self.acting.seat.me.0.lists i);
}
