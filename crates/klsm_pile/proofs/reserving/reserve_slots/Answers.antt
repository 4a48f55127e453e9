use Rattle.std.proofs.Common.{◌<◌, true, arith, subst, sym}
use Rattle.std.specs.List.{AllByRecursion}
use Rattle.klsm_run.specs.Content.{IsAscending}
use Rattle.klsm_pile.specs.Piece.{PieceState}
use Rattle.klsm_pile.proofs.AbsorbLemmas.{same_total, same_through}
use Rattle.klsm_pile.proofs.reserving.reserve_slots.Goals as goal

pub unite_any-requires-clause-distinct : goal.unite_any-requires-clause-distinct
unite_any-requires-clause-distinct g c = subst IsAscending (sym (c.loop-pieces.invariant.same (λ n. true))) c.requires.distinct

pub unite_any-requires-clause-few : goal.unite_any-requires-clause-few
unite_any-requires-clause-few g c = omega (arith, c.requires.few, same_total c.loop-pieces.pieces.items c.args.pieces.now.items c.loop-pieces.invariant.same)

pub returns-then-not-unite_any-clause-below : goal.returns-then-not-unite_any-clause-below
returns-then-not-unite_any-clause-below g c n below =
    subst (AllByRecursion (λ (p : PieceState). p.level < n)) (sym c.reserve_exact.ensures.items) (c.unite_any.ensures.below n (c.loop-pieces.invariant.below n below))

pub loop-pieces-preserved : goal.loop-pieces-preserved
loop-pieces-preserved g c = record {
  same = same_through c.unite_any.new.pieces.items c.loop-pieces.pieces.items c.args.pieces.now.items c.unite_any.ensures.same c.loop-pieces.invariant.same;
  below = λ n below. c.unite_any.ensures.below n (c.loop-pieces.invariant.below n below);
}

pub returns-clause-below : goal.returns-clause-below
returns-clause-below g c n below =
    subst (AllByRecursion (λ (p : PieceState). p.level < n)) (sym c.reserve_exact-2.ensures.items) (c.loop-pieces.invariant.below n below)
