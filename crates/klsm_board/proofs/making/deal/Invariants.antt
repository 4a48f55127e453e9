use Rattle.std.proofs.Common.{◌≡◌, ℕ, ◌-◌, [], length}
use mathlib.Core.Option.{some}
use lib.ListN.{get_elem?}
use Rattle.klsm_board.specs.declared.board.Member.{Member}
use Rattle.klsm_board.specs.Boards.{IsOf, own_steps}
use Rattle.klsm_board.specs.Rule.{view, fresh}
use Rattle.klsm_board.proofs.making.deal.Given as goal

abbrev pub invariant-loop-number : goal.invariant-loop-number
invariant-loop-number g l = record {
  of_table : l.seat.table_id ≡ l.board.table.shared.table_id;
  left : l.seat.me ≡ (view (fresh l.number (l.board.sizes.threads - l.number)), []);
  count : length l.members.items ≡ l.number;
  members : (i : ℕ) (member : Member g.row.CAP g.row.LEVELS) → get_elem? l.members.items i ≡ some member → (member.number ≡ i) × IsOf member l.board × (own_steps member ≡ []);
}
