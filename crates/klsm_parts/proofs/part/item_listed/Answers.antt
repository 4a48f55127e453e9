use Rattle.std.proofs.Common.{◌≤◌, ◌<◌, length, sym, ◌∙◌, arith}
use Rattle.klsm_parts.proofs.ListingLemmas.{item_here, item_past, never_past}
use Rattle.klsm_parts.proofs.part.item_listed.Goals as goal

pub returns-then-left-len : goal.returns-then-left-len
returns-then-left-len g c =
    let block = g.R.Run.items c.block-run.result.now in
    let within : c.loop-block.left < length block = omega (arith, c.if-left-len.true, c.len.ensures.len) in
    sym c.loop-block.invariant ∙ (item_here c.args.lsm.now c.loop-block.block c.loop-block.left block c.block-run.ensures.block within ∙ c.item_at.ensures)

pub loop-block-preserved : goal.loop-block-preserved
loop-block-preserved g c =
    let block = g.R.Run.items c.block-run.result.now in
    let past : length block ≤ c.loop-block.left = omega (arith, c.if-left-len.false, c.len.ensures.len) in
    rw c.len-left.ensures.len (sym (item_past c.args.lsm.now c.loop-block.block c.loop-block.left block c.block-run.ensures.block past) ∙ c.loop-block.invariant)

pub unreachable-requires : goal.unreachable-requires
unreachable-requires g c =
    never_past c.args.lsm.now c.loop-block.block c.loop-block.left c.args.index (omega (arith, c.loop-block-test.false, c.blocks-block-end.ensures.blocks)) c.requires c.loop-block.invariant
