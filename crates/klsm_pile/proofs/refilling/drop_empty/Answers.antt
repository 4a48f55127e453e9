use Rattle.std.proofs.Common.{◌∙◌, arith}
use Rattle.klsm_pile.proofs.RefillLemmas.{picked_gone, below_gone}
use Rattle.klsm_pile.proofs.refilling.drop_empty.Goals as goal

pub loop-at-preserved-then-len-eq0 : goal.loop-at-preserved-then-len-eq0
loop-at-preserved-then-len-eq0 g c = record {
  same = λ test.
      picked_gone test c.loop-at.pieces.items _ c.loop-at.at c.index.result.now _ (omega (arith, c.loop-at-test.true, c.len.ensures, c.loop-at.pieces.ok)) c.index.ensures c.len-in-loop-at.ensures.len c.if-len-eq0.true c.remove_piece.ensures.items
      ∙ c.loop-at.invariant.same test;
  below = λ levels under. below_gone levels _ _ c.loop-at.at c.remove_piece.ensures.items (c.loop-at.invariant.below levels under);
  capacity = c.remove_piece.ensures.capacity ∙ c.loop-at.invariant.capacity;
}
