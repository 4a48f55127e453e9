use Rattle.std.proofs.Common.{◌≡◌, length, vec_capacity}
use Rattle.klsm_pile.specs.Counting.{AreCounts}
use Rattle.klsm_pile.specs.Front.{parts}
use Rattle.klsm_pile.proofs.LeavingLemmas.{IsGoing}
use Rattle.klsm_pile.proofs.leaving.take_first.Given as goal

abbrev pub invariant-loop-level : goal.invariant-loop-level
invariant-loop-level g l = record {
  going : IsGoing (length l.fn.counts) (length l.fn.places) l.level l.fn.front.items l.front.items l.fn.pieces.items l.pieces.items;
  counted : AreCounts l.counts (parts l.front.items l.pieces.items);
  capacity : (l.front.capacity ≡ l.fn.front.capacity) × (vec_capacity l.pieces ≡ vec_capacity l.fn.pieces);
}
