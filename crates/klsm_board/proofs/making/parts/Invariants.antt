use Rattle.std.proofs.Common.{◌≡◌, ◌+◌, length}
use Rattle.klsm_board.specs.Slots.{AreEmptySlots}
use Rattle.klsm_board.proofs.making.parts.Given as goal

abbrev pub invariant-loop : goal.invariant-loop
invariant-loop g l = record {
  many : length l.all.items ≡ l.counter + 1;
  empty : AreEmptySlots l.k l.all.items;
}
