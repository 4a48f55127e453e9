use Rattle.std.proofs.Common.{sym, subst, arith, length}
use Rattle.klsm_pile.specs.Counting.{AreCounts}
use Rattle.klsm_pile.specs.Front.{parts}
use Rattle.klsm_pile.proofs.StoreLemmas.{parts_are, renumbered}
use Rattle.klsm_pile.proofs.levels.regroup.Goals as goal

pub returns-clause-parts : goal.returns-clause-parts
returns-clause-parts g c = parts_are c.args.low c.args.high c.args.to c.args.front.now.items _ c.args.pieces.now.items _ c.relabel.ensures.items c.regroup_pieces.ensures.items

pub returns-clause-counted : goal.returns-clause-counted
returns-clause-counted g c =
    subst (AreCounts c.gather.new.counts) (sym (parts_are c.args.low c.args.high c.args.to c.args.front.now.items _ c.args.pieces.now.items _ c.relabel.ensures.items c.regroup_pieces.ensures.items))
    (c.gather.ensures.counted (parts c.args.front.now.items c.args.pieces.now.items) c.requires.counted)

pub returns-clause-same : goal.returns-clause-same
returns-clause-same g c =
    renumbered (length c.args.counts.now) c.args.low c.args.high c.args.to c.args.front.now.items _ c.args.pieces.now.items _ (omega (arith, c.requires.within, c.requires.fits)) c.relabel.ensures.items c.regroup_pieces.ensures.items
