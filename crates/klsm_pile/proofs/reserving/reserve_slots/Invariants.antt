use Rattle.std.proofs.Common.{ℕ, ◌<◌, length}
use Rattle.std.specs.List.{AllByRecursion}
use Rattle.klsm_pile.specs.Piece.{PieceState}
use Rattle.klsm_pile.specs.Pieces.{HaveSame}
use Rattle.klsm_pile.proofs.reserving.reserve_slots.Given as goal

abbrev pub invariant-loop-pieces : goal.invariant-loop-pieces
invariant-loop-pieces g l = record {
  same : HaveSame l.pieces.items l.fn.pieces.items;
  below : (n : ℕ) → AllByRecursion (λ (p : PieceState). p.level < n) l.fn.pieces.items → AllByRecursion (λ (p : PieceState). p.level < n) l.pieces.items;
}

abbrev pub decreases-loop-pieces : goal.decreases-loop-pieces
decreases-loop-pieces g l = length l.pieces.items
