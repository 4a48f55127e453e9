use Rattle.std.proofs.Common.{◌∙◌, refl, sym, arith}
use Rattle.klsm_pile.proofs.ReadingLemmas.{level_there}
use Rattle.klsm_pile.proofs.SeekingLemmas.{sought_here, sought_none, sought_elsewhere, sought_all}
use Rattle.klsm_pile.proofs.seeking.next_of_pieces.Goals as goal
use Rattle.klsm_pile.proofs.seeking.next_of_pieces.Goals.{then-level+in-Some, then-level+in_default, else-level}

pub loop-at-init : goal.loop-at-init
loop-at-init g c = refl

pub loop-at-preserved : goal.loop-at-preserved
loop-at-preserved g c = elim c.if-level.branch [
  | then-level+in-Some w ↦
      sought_here c.args.level c.loop-at.at c.args.pieces.now w.index-pieces-at-then-level.result c.args.bound c.loop-at.found c.if-level.found w.in-Some.item w.lesser.result c.loop-at-test.true w.index-pieces-at-then-level.is
      (level_there c.args.level c.loop-at.at _ c.args.pieces.now c.index-pieces-at.result w.index-pieces-at-then-level.result c.loop-at-test.true c.index-pieces-at.is w.index-pieces-at-then-level.is c.level.ensures w.if-level.true) c.loop-at.invariant
      (sym w.first_of_piece.ensures ∙ w.in-Some.is) w.lesser.ensures w.found-is
  | then-level+in_default w ↦
      sought_none c.args.level c.loop-at.at c.args.pieces.now w.index-pieces-at-then-level.result c.args.bound c.loop-at.found c.if-level.found c.loop-at-test.true w.index-pieces-at-then-level.is
      (level_there c.args.level c.loop-at.at _ c.args.pieces.now c.index-pieces-at.result w.index-pieces-at-then-level.result c.loop-at-test.true c.index-pieces-at.is w.index-pieces-at-then-level.is c.level.ensures w.if-level.true) c.loop-at.invariant
      (sym w.first_of_piece.ensures ∙ w.in_default.is) w.found-is
  | else-level w ↦
      sought_elsewhere c.args.level c.loop-at.at c.args.pieces.now c.index-pieces-at.result c.args.bound c.loop-at.found c.if-level.found c.loop-at-test.true c.index-pieces-at.is (λ is. w.if-level.false (c.level.ensures ∙ is)) c.loop-at.invariant
      w.found-is
]

pub returns : goal.returns
returns g c = sought_all c.args.level c.loop-at.at c.args.pieces.now c.args.bound c.loop-at.found (omega (arith, c.loop-at-test.false)) c.loop-at.invariant
