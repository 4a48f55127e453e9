use Rattle.std.proofs.Common.{◌≡◌, ◌++◌, take}
use Rattle.klsm_pile.specs.Front.{fetched}
use Rattle.klsm_pile.proofs.front.Front.append.Given as goal

abbrev pub invariant-loop-item : goal.invariant-loop-item
invariant-loop-item g l = record {
  items : l.self.items ≡ l.fn.self.items ++ fetched l.level (take l.item-index l.items);
  capacity : l.self.capacity ≡ l.fn.self.capacity;
}
