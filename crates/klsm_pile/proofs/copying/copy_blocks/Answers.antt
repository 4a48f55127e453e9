use Rattle.std.proofs.Common.{◌-◌, arith}
use Rattle.klsm_run.specs.Capacity.{heap_room}
use Rattle.klsm_lsm.specs.Limit.{limit_of}
use Rattle.klsm_pile.specs.Front.{parts}
use Rattle.klsm_pile.specs.Pieces.{blocks_below}
use Rattle.klsm_pile.proofs.CopyingLemmas.{next_needs, next_put, next_refused, next_none, copied_first, copied_all}
use Rattle.klsm_pile.proofs.copying.copy_blocks.Goals as goal

pub loop-level-init : goal.loop-level-init
loop-level-init g c = record { within = omega (arith, c.requires.slots); blocks = copied_first c.new-lsm.result _ c.new-lsm.ensures }

pub copy_block-requires-clause-count : goal.copy_block-requires-clause-count
copy_block-requires-clause-count g c = c.requires.counted (c.loop-level.level - 1) (omega (arith, c.loop-level-test.true, c.loop-level.invariant.within))

pub absorb-requires : goal.absorb-requires
absorb-requires g c =
    let needs =
    next_needs c.args.counts.now c.loop-level.level (parts c.args.front.now.items c.args.pieces.now) c.loop-level.lsm (blocks_below g.row.LEVELS (parts c.args.front.now.items c.args.pieces.now)) c.in_ok-run.run'.items c.requires.lawful c.loop-level-test.true
    c.loop-level.invariant.within c.requires.counted c.if-counts-level-ne0.true c.loop-level.invariant.blocks c.in_ok-run.ensures in
    (search, needs)

pub loop-level-preserved-in-Ok-1 : goal.loop-level-preserved-in-Ok-1
loop-level-preserved-in-Ok-1 g c = record {
  within = omega (arith, c.loop-level.invariant.within);
  blocks = next_put c.args.counts.now c.loop-level.level (parts c.args.front.now.items c.args.pieces.now) c.loop-level.lsm c.absorb.new.self (blocks_below g.row.LEVELS (parts c.args.front.now.items c.args.pieces.now)) c.in_ok-run.run'.items
      c.requires.lawful c.loop-level-test.true c.loop-level.invariant.within c.requires.counted c.if-counts-level-ne0.true c.loop-level.invariant.blocks c.in_ok-run.ensures c.in-Ok.ensures.added;
}

pub loop-level-preserved : goal.loop-level-preserved
loop-level-preserved g c = record {
  within = omega (arith, c.loop-level.invariant.within);
  blocks = next_none c.args.counts.now c.loop-level.level (parts c.args.front.now.items c.args.pieces.now) c.loop-level.lsm (blocks_below g.row.LEVELS (parts c.args.front.now.items c.args.pieces.now)) c.loop-level-test.true
      c.loop-level.invariant.within c.requires.counted c.if-counts-level-ne0.false c.loop-level.invariant.blocks;
}

pub unreachable-requires : goal.unreachable-requires
unreachable-requires g c =
    next_refused c.args.counts.now c.loop-level.level (parts c.args.front.now.items c.args.pieces.now) c.loop-level.lsm (blocks_below g.row.LEVELS (parts c.args.front.now.items c.args.pieces.now)) c.in_ok-run.run'.items
    (limit_of g.row.LEVELS heap_room) c.in_default.field-0.why c.requires.lawful c.requires.limit c.loop-level-test.true c.loop-level.invariant.within c.requires.counted c.if-counts-level-ne0.true c.loop-level.invariant.blocks c.in_ok-run.ensures
    c.in_default.ensures.full c.in_default.ensures.merging

pub returns : goal.returns
returns g c =
    copied_all c.loop-level.level (parts c.args.front.now.items c.args.pieces.now) c.loop-level.lsm (blocks_below g.row.LEVELS (parts c.args.front.now.items c.args.pieces.now)) (omega (arith, c.loop-level-test.false)) c.loop-level.invariant.blocks
