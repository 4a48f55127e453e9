use Rattle.std.specs.Prelude.{◌≡◌}
use Rattle.klsm_schedules.specs.OwnSteps.{Hand}
use Rattle.klsm_board.specs.Seats.{Has}
use Rattle.klsm_board.specs.Steps.{mine, rest_of}
use Rattle.klsm_board.proofs.lemmas.calls.SeenLemmas.{Seeing}
use Rattle.klsm_board.proofs.bounding.see_all_work.Given as goal

abbrev pub invariant-loop-other : goal.invariant-loop-other
invariant-loop-other g l = record {
  same : l.seat.table_id ≡ l.initial.seat.table_id;
  others : rest_of l.seat.me.0 ≡ rest_of l.initial.seat.me.0;
  has : (hand : Hand) → Has g.S.Holding.content g.S.Holding.suits l.table.key l.thread hand l.initial.seat.me → Has g.S.Holding.content g.S.Holding.suits l.table.key l.thread hand l.seat.me;
  seeing : Seeing (mine l.initial.seat.me.0) l.other l.least l.seat.me;
}
