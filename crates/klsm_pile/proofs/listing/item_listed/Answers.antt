use Rattle.std.proofs.Common.{refl, arith}
use Rattle.klsm_pile.specs.Front.{parts}
use Rattle.klsm_pile.proofs.ListingLemmas.{listed_here, listed_behind, left_behind, none_listed, ranked_within}
use Rattle.klsm_pile.proofs.listing.item_listed.Goals as goal

pub loop-level-init : goal.loop-level-init
loop-level-init g c = record { within = omega arith; there = c.requires.there; item = refl }

pub bounds-counts-level : goal.bounds-counts-level
bounds-counts-level g c = omega (arith, c.loop-level-test.true, c.loop-level.invariant.within)

pub item_of_level-requires-clause-rank : goal.item_of_level-requires-clause-rank
item_of_level-requires-clause-rank g c =
    ranked_within c.args.counts.now c.loop-level.level c.loop-level.left (parts c.args.front.now.items c.args.pieces.now) c.loop-level-test.true c.loop-level.invariant.within c.requires.counted c.if-left-counts.true

pub returns-then-left-counts : goal.returns-then-left-counts
returns-then-left-counts g c =
    listed_here c.loop-level.level c.args.index c.loop-level.left (parts c.args.front.now.items c.args.pieces.now) _ c.item_of_level.result c.loop-level-test.true c.loop-level.invariant.item c.item_of_level.ensures

pub bounds-counts-level-in-loop-level : goal.bounds-counts-level-in-loop-level
bounds-counts-level-in-loop-level g c = omega (arith, c.loop-level-test.true, c.loop-level.invariant.within)

pub loop-level-preserved : goal.loop-level-preserved
loop-level-preserved g c = record {
  within = omega (arith, c.loop-level.invariant.within);
  there = left_behind c.args.counts.now c.loop-level.level c.loop-level.left (parts c.args.front.now.items c.args.pieces.now) c.loop-level-test.true c.loop-level.invariant.within c.requires.counted c.if-left-counts.false c.loop-level.invariant.there;
  item = listed_behind c.args.counts.now c.loop-level.level c.args.index c.loop-level.left (parts c.args.front.now.items c.args.pieces.now) _ c.loop-level-test.true c.loop-level.invariant.within c.requires.counted c.if-left-counts.false
      c.loop-level.invariant.item;
}

pub unreachable-requires : goal.unreachable-requires
unreachable-requires g c = none_listed c.loop-level.level c.loop-level.left (parts c.args.front.now.items c.args.pieces.now) (omega (arith, c.loop-level-test.false)) c.loop-level.invariant.there
