use Rattle.std.proofs.Common.{ℕ, Bool, ◌≡◌, ◌-◌, ◌<◌, length, vec_capacity}
use Rattle.std.specs.List.{AllByRecursion}
use Rattle.klsm_pile.specs.Piece.{PieceState}
use Rattle.klsm_pile.specs.Pieces.{items_where}
use Rattle.klsm_pile.proofs.refilling.drop_empty.Given as goal

abbrev pub invariant-loop-at : goal.invariant-loop-at
invariant-loop-at g l = record {
  same : (test : ℕ → Bool) → items_where test l.pieces.items ≡ items_where test l.fn.pieces.items;
  below : (levels : ℕ) → AllByRecursion (λ (p : PieceState). p.level < levels) l.fn.pieces.items → AllByRecursion (λ (p : PieceState). p.level < levels) l.pieces.items;
  capacity : vec_capacity l.pieces ≡ vec_capacity l.fn.pieces;
}

abbrev pub decreases-loop-at : goal.decreases-loop-at
decreases-loop-at g l = length l.pieces.items - l.at
