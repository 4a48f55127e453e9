use Rattle.std.proofs.Common.{◌≡◌, ◌<◌, ◌≤◌, length, slice_get}
use Rattle.klsm_lsm.specs.Lsm.{content}
use Rattle.klsm_pile.specs.Pieces.{blocks_below}
use Rattle.klsm_pile.specs.Front.{parts}
use Rattle.klsm_pile.proofs.listing.item_listed.Given as goal

-- the item is one of the levels below
abbrev pub invariant-loop-level : goal.invariant-loop-level
invariant-loop-level g l = record {
  within : l.level ≤ length l.counts;
  there : l.left < length (content (blocks_below l.level (parts l.front.items l.pieces)));
  item : slice_get (content (blocks_below (length l.counts) (parts l.front.items l.pieces))) l.index ≡ slice_get (content (blocks_below l.level (parts l.front.items l.pieces))) l.left;
}

abbrev pub decreases-loop-level : goal.decreases-loop-level
decreases-loop-level g l = l.level
