use Rattle.std.proofs.Common.{ℕ, ◌≡◌, ◌≤◌, ◌<◌, length, vec_capacity}
use Rattle.std.specs.List.{AllByRecursion}
use Rattle.klsm_pile.specs.Piece.{PieceState}
use Rattle.klsm_pile.specs.Pieces.{HaveSame}
use Rattle.klsm_pile.proofs.handing.collect.Given as goal

abbrev pub invariant-loop-at : goal.invariant-loop-at
invariant-loop-at g l = record {
  same : HaveSame l.pieces.items l.fn.pieces.items;
  below : (levels : ℕ) → AllByRecursion (λ (p : PieceState). p.level < levels) l.fn.pieces.items → AllByRecursion (λ (p : PieceState). p.level < levels) l.pieces.items;
  more : length l.fn.pieces.items ≤ length l.pieces.items;
  capacity : vec_capacity l.pieces ≡ vec_capacity l.fn.pieces;
}
