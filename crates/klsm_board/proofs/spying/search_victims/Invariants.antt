use Rattle.std.specs.Prelude.{◌≡◌, ◌-◌, ◌++◌, List, []}
use Rattle.klsm_run.specs.declared.item.Item.{Item}
use Rattle.klsm_schedules.specs.declared.step.Entry.{Entry}
use Rattle.klsm_board.specs.Steps.{mine, rest_of}
use Rattle.klsm_board.specs.Seats.{Has, both_in_hand}
use Rattle.klsm_board.specs.Deleting.{Passes}
use Rattle.klsm_board.proofs.spying.search_victims.Given as goal

abbrev pub invariant-loop-step : goal.invariant-loop-step
invariant-loop-step g l = record {
  same : l.seat.table_id ≡ l.initial.seat.table_id;
  others : rest_of l.seat.me.0 ≡ rest_of l.initial.seat.me.0;
  still : (shared : List Item) → Has g.S.Holding.content g.S.Holding.suits l.table.key l.thread (both_in_hand l.thread [] shared) l.initial.seat.me
      → Has g.S.Holding.content g.S.Holding.suits l.table.key l.thread (both_in_hand l.thread [] shared) l.seat.me
      × ((added : List Entry) × Passes l.threads l.thread (l.step - 1) added × (mine l.seat.me.0 ≡ mine l.initial.seat.me.0 ++ added));
}
