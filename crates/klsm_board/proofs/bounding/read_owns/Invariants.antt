use Rattle.std.specs.Prelude.{◌≡◌, ◌++◌, List, length}
use Rattle.klsm_run.specs.declared.item.Item.{Item}
use Rattle.klsm_board.specs.Bounding.{IsBoundOf, owns_in_hand, owns_items}
use Rattle.klsm_board.specs.Seats.{Has}
use Rattle.klsm_board.specs.Steps.{mine, rest_of}
use Rattle.klsm_board.proofs.lemmas.calls.ReadingLemmas.{Reading}
use Rattle.klsm_board.proofs.bounding.read_owns.Given as goal

abbrev pub invariant-loop-done : goal.invariant-loop-done
invariant-loop-done g l = record {
  same : l.seat.table_id ≡ l.initial.seat.table_id;
  others : rest_of l.seat.me.0 ≡ rest_of l.initial.seat.me.0;
  work : l.bound.work ≡ l.initial.bound.work;
  reading : (owns : List (List Item)) → (read : List Item) → length owns ≡ l.threads → Has g.S.Holding.content g.S.Holding.suits l.table.key l.thread (owns_in_hand owns) l.initial.seat.me → IsBoundOf read l.initial.bound
      → Reading g.S.Holding.content g.S.Holding.suits l.table.key l.thread (mine l.initial.seat.me.0) (read ++ owns_items owns) l.threads l.done l.bound l.seat.me;
}
