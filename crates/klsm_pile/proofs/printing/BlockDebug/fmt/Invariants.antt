use Rattle.std.specs.Prelude.{⊤}
use Rattle.std.proofs.Common.{length}
use Rattle.klsm_pile.specs.Pieces.{at_level}
use Rattle.klsm_pile.specs.Front.{parts}
use Rattle.klsm_pile.specs.Seeking.{items_over}
use Rattle.klsm_pile.proofs.printing.BlockDebug.fmt.Given as goal

abbrev pub invariant-loop-item : goal.invariant-loop-item
invariant-loop-item g l = ⊤

-- how many items are to be printed
abbrev pub decreases-loop-item : goal.decreases-loop-item
decreases-loop-item g l = length (items_over l.last (at_level l.self.level (parts l.self.front.now.items l.self.pieces.now)))
