use Rattle.std.proofs.Common.{◌≡◌, take}
use Rattle.klsm_pile.specs.Pieces.{at_level}
use Rattle.klsm_pile.specs.Seeking.{least_over}
use Rattle.klsm_pile.proofs.seeking.next_of_pieces.Given as goal

abbrev pub invariant-loop-at : goal.invariant-loop-at
invariant-loop-at g l = l.found ≡ least_over l.bound (at_level l.level (take l.at l.pieces))
