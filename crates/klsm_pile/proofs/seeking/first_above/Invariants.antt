use Rattle.std.proofs.Common.{◌≡◌, [], take}
use Rattle.klsm_pile.specs.Seeking.{items_over}
use Rattle.klsm_pile.proofs.seeking.first_above.Given as goal

abbrev pub invariant-loop-item : goal.invariant-loop-item
invariant-loop-item l = items_over l.bound (take l.item-index l.items) ≡ []
