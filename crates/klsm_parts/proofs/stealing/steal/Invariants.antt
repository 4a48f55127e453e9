use Rattle.std.proofs.Common.{◌≡◌, ◌-◌, ◌≤◌, take, drop}
use Rattle.klsm_parts.specs.Parts.{items_in}
use Rattle.klsm_parts.specs.Events.{plus}
use Rattle.klsm_parts.specs.Stealing.{AreCutFrom, with_each}
use Rattle.klsm_parts.proofs.stealing.steal.Given as goal

-- so many items are moved
abbrev pub invariant-loop-done : goal.invariant-loop-done
invariant-loop-done g l = record {
  few : l.done ≤ l.count;
  moved : items_in l.own ≡ plus (items_in l.fn.own) (take l.done (items_in l.fn.victim));
  left : items_in l.victim ≡ drop l.done (items_in l.fn.victim);
  own_blocks : l.own.blocks ≡ with_each l.fn.own.blocks (take l.done (items_in l.fn.victim));
  victim_blocks : AreCutFrom (take l.done (items_in l.fn.victim)) l.fn.victim.blocks l.victim.blocks;
  own_k : l.own.k ≡ l.fn.own.k;
  victim_k : l.victim.k ≡ l.fn.victim.k;
}

abbrev pub decreases-loop-done : goal.decreases-loop-done
decreases-loop-done g l = l.count - l.done
