use Rattle.std.specs.Prelude.{◌≡◌}
use Rattle.klsm_board.specs.Steps.{mine, rest_of}
use Rattle.klsm_board.proofs.lemmas.calls.ReadingLemmas.{Releasing}
use Rattle.klsm_board.proofs.bounding.release_owns.Given as goal

abbrev pub invariant-loop-done : goal.invariant-loop-done
invariant-loop-done g l = record {
  same : l.seat.table_id ≡ l.initial.seat.table_id;
  others : rest_of l.seat.me.0 ≡ rest_of l.initial.seat.me.0;
  releasing : Releasing g.S.Holding.content g.S.Holding.suits l.table.key l.thread (mine l.initial.seat.me.0) l.count l.done l.seat.me;
}
