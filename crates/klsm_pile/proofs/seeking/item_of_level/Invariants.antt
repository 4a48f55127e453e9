use Rattle.std.proofs.Common.{◌≡◌, Some}
use Rattle.std.specs.List.{slice_get}
use Rattle.klsm_run.specs.Content.{sorted}
use Rattle.klsm_pile.specs.Pieces.{at_level}
use Rattle.klsm_pile.specs.Front.{parts}
use Rattle.klsm_pile.proofs.seeking.item_of_level.Given as goal

abbrev pub invariant-loop : goal.invariant-loop
invariant-loop g l = slice_get (sorted (at_level l.level (parts l.front.items l.pieces))) l.counter ≡ Some l.item
