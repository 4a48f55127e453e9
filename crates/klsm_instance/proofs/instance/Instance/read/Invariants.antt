use Rattle.std.proofs.Common.{◌≡◌, ◌+◌, length, List}
use Rattle.klsm_instance.specs.Limits.{IsInRange}
use Rattle.klsm_rows.specs.Rows.{Row, HasRead}
use Rattle.klsm_instance.specs.Format.{Give}
use Rattle.klsm_instance.proofs.instance.Instance.read.Given as goal

abbrev pub invariant-loop-before : goal.invariant-loop-before
invariant-loop-before g l = record {
  read : (rows : List Row) × HasRead g.R.Read.remaining (g.R.Read.remaining l.fn.reader) rows l.rows.reader
      × Give rows record { capacity = l.capacity; things = l.things.items } × (length rows ≡ length l.things.items + 1);
  range : IsInRange record { capacity = l.capacity; things = l.things.items };
  count : length l.things.items ≡ l.before;
}
