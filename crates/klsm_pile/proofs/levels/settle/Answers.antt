use Rattle.std.proofs.Common.{sym, subst, arith, slice_index_or}
use Rattle.klsm_run.specs.Block.{HasLevel}
use Rattle.klsm_pile.specs.Front.{parts}
use Rattle.klsm_pile.specs.Settling.{IsSettled}
use Rattle.klsm_pile.proofs.StoreLemmas.{settled_same}
use Rattle.klsm_pile.proofs.levels.settle.Goals as goal

pub returns-then-own-level-clause-settled : goal.returns-then-own-level-clause-settled
returns-then-own-level-clause-settled g c =
    settled_same c.args.level _ (parts c.args.front.now.items c.args.pieces.now.items) (c.requires.counted c.args.level (omega (arith, c.requires.level)))
    (subst (λ l. HasLevel l (slice_index_or c.args.counts.now c.args.level 0)) c.if-own-level.true c.level_of-own.ensures.level)

pub group_of-low-requires-clause-fits : goal.group_of-low-requires-clause-fits
group_of-low-requires-clause-fits g c =
    c.level_of-own.ensures.least c.args.level (omega (arith, c.requires.fits, c.requires.counted c.args.level (omega (arith, c.requires.level))))

pub returns-clause-settled : goal.returns-clause-settled
returns-clause-settled g c =
    subst (IsSettled c.args.level (parts c.args.front.now.items c.args.pieces.now.items)) (sym c.regroup.ensures.parts)
    (c.group_of-low.ensures.settles (parts c.args.front.now.items c.args.pieces.now.items) c.requires.counted c.requires.lower)
