use Rattle.std.proofs.Common.{◌≡◌, ◌⊎◌, ◌+◌, ◌-◌, ◌≤◌, length, take, drop}
use Rattle.klsm_parts.specs.Parts.{items_in}
use Rattle.klsm_pile.specs.Leaving.{cut_least}
use Rattle.klsm_parts.proofs.refilling.move_least.Given as goal

-- so many items are moved
abbrev pub invariant-loop-done : goal.invariant-loop-done
invariant-loop-done g l = record {
  few : l.done ≤ length l.places;
  len : length l.places ≡ length l.fn.places;
  moved : take l.done l.places ≡ take l.done (items_in l.fn.shared);
  left : items_in l.shared ≡ drop l.done (items_in l.fn.shared);
  blocks : length l.fn.places ≤ l.fn.shared.k + 1 → ((l.done ≡ 0) × (l.shared.blocks ≡ l.fn.shared.blocks)) ⊎ ((l.done ≡ length l.fn.places) × (l.shared.blocks ≡ cut_least (length l.fn.places) l.fn.shared.blocks));
  shared_k : l.shared.k ≡ l.fn.shared.k;
}

abbrev pub decreases-loop-done : goal.decreases-loop-done
decreases-loop-done g l = length l.places - l.done
