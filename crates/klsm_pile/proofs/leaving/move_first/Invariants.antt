use Rattle.std.proofs.Common.{List, ◌≡◌, take, drop}
use Rattle.klsm_pile.specs.Piece.{PieceState}
use Rattle.klsm_pile.specs.Counting.{AreCounts}
use Rattle.klsm_pile.specs.Front.{parts, front_items}
use Rattle.klsm_pile.proofs.leaving.move_first.Given as goal

abbrev pub invariant-loop-place : goal.invariant-loop-place
invariant-loop-place g l = record {
  items : l.front.items ≡ drop l.place-index l.fn.front.items;
  placed : take l.place-index l.places ≡ take l.place-index (front_items l.fn.front.items);
  counted : (ps : List PieceState) → AreCounts l.fn.counts (parts l.fn.front.items ps) → AreCounts l.counts (parts l.front.items ps);
  capacity : l.front.capacity ≡ l.fn.front.capacity;
}
