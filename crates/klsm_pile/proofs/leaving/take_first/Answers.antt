use Rattle.std.proofs.Common.{refl, ◌∙◌, arith, length}
use Rattle.klsm_pile.proofs.LeavingLemmas.{going_first, going_more, going_fits, going_few, going_held, going_blocks, going_left}
use Rattle.klsm_pile.proofs.leaving.take_first.Goals as goal

pub loop-level-init : goal.loop-level-init
loop-level-init g c = record {
  going = going_first (length c.args.counts.now) (length c.args.places.now) c.args.front.now.items _ c.args.pieces.now.items c.move_first.ensures.left;
  counted = c.move_first.ensures.counted c.args.pieces.now.items c.requires.held.counted;
  capacity = (c.move_first.ensures.capacity, refl);
}

pub settle-requires-clause-lower : goal.settle-requires-clause-lower
settle-requires-clause-lower g c = c.loop-level.invariant.going.settled.numbered

pub settle-requires-clause-fits : goal.settle-requires-clause-fits
settle-requires-clause-fits g c = going_fits _ _ _ _ _ _ _ c.args.counts.now c.requires.held c.requires.there c.loop-level.invariant.going

pub settle-requires-clause-counted : goal.settle-requires-clause-counted
settle-requires-clause-counted g c = c.loop-level.invariant.counted

pub settle-requires-clause-few : goal.settle-requires-clause-few
settle-requires-clause-few g c = omega (arith, going_few _ _ _ _ _ _ _ c.loop-level.invariant.going, c.requires.few)

pub loop-level-preserved : goal.loop-level-preserved
loop-level-preserved g c = record {
  going = going_more (length c.args.counts.now) (length c.loop-level.counts) (length c.args.places.now) c.loop-level.level c.args.front.now.items _ _ c.args.pieces.now.items _ _ c.args.counts.now c.requires.held c.requires.there
      (omega (arith, c.loop-level.auto.counts, c.move_first.auto.counts)) c.loop-level.invariant.going c.settle.ensures.settled c.settle.ensures.same;
  counted = c.settle.ensures.counted;
  capacity = (c.settle.ensures.capacity.0 ∙ c.loop-level.invariant.capacity.0, c.settle.ensures.capacity.1 ∙ c.loop-level.invariant.capacity.1);
}

pub returns-clause-held : goal.returns-clause-held
returns-clause-held g c =
    going_held (length c.args.counts.now) _ _ _ _ _ _ c.args.counts.now _ c.requires.held (omega (arith, c.loop-level-test.false, c.loop-level.auto.level-end, c.move_first.auto.counts)) c.loop-level.invariant.going c.loop-level.invariant.counted

pub returns-clause-left : goal.returns-clause-left
returns-clause-left g c = going_left _ _ _ _ _ _ _ c.loop-level.invariant.going

pub returns-clause-pieces : goal.returns-clause-pieces
returns-clause-pieces g c = c.loop-level.invariant.going.same.pieces

pub returns-clause-blocks : goal.returns-clause-blocks
returns-clause-blocks g c =
    going_blocks (length c.args.counts.now) _ _ _ _ _ _ (omega (arith, c.loop-level-test.false, c.loop-level.auto.level-end, c.move_first.auto.counts)) c.loop-level.invariant.going

pub returns-clause-capacity : goal.returns-clause-capacity
returns-clause-capacity g c = c.loop-level.invariant.capacity
