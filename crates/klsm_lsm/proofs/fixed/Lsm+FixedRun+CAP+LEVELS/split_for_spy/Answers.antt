use Rattle.std.proofs.Common.{Some, ap, ◌∙◌, arith}
use Rattle.klsm_lsm.proofs.SpyLemmas.{largest_spied, half_spied}
use Rattle.klsm_lsm.proofs.fixed.Lsm+FixedRun+CAP+LEVELS.split_for_spy.Goals as goal

pub blocks-requires : goal.blocks-requires
blocks-requires g c = search

pub take_largest-requires : goal.take_largest-requires
take_largest-requires g c = search

pub returns-then-blocks-ne1-clause-given : goal.returns-then-blocks-ne1-clause-given
returns-then-blocks-ne1-clause-given g c = (largest_spied c.args.self.now _ (omega (arith, c.blocks-2.ensures.blocks, c.if-blocks-ne1.true)) c.take_largest.ensures.block).0

pub returns-then-blocks-ne1-clause-rest : goal.returns-then-blocks-ne1-clause-rest
returns-then-blocks-ne1-clause-rest g c =
    c.take_largest.ensures.rest ∙ (largest_spied c.args.self.now _ (omega (arith, c.blocks-2.ensures.blocks, c.if-blocks-ne1.true)) c.take_largest.ensures.block).1

pub block-requires : goal.block-requires
block-requires g c = (search, omega (arith, c.blocks-2.ensures.blocks, c.if-blocks-ne1.false))

pub upper_half-upper-requires : goal.upper_half-upper-requires
upper_half-upper-requires g c = search

pub lose_half-requires : goal.lose_half-requires
lose_half-requires g c = (search, (search, omega (arith, c.blocks-2.ensures.blocks, c.if-blocks-ne1.false)))

pub returns-clause-given : goal.returns-clause-given
returns-clause-given g c = ap Some c.upper_half-upper.ensures ∙ half_spied c.args.self.now _ (omega (arith, c.blocks-2.ensures.blocks, c.if-blocks-ne1.false)) c.block.ensures.block

pub returns-clause-rest : goal.returns-clause-rest
returns-clause-rest g c = c.lose_half.ensures

pub blocks-requires-room-R-Run : goal.blocks-requires-room-R-Run
blocks-requires-room-R-Run g c κs = search

pub take_largest-requires-room-R-Run : goal.take_largest-requires-room-R-Run
take_largest-requires-room-R-Run g c κs = search

pub block-requires-room-R-Run : goal.block-requires-room-R-Run
block-requires-room-R-Run g c κs = search
