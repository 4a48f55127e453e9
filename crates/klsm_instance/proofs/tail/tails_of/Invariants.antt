use Rattle.std.proofs.Common.{◌≡◌, ◌+◌, ◌-◌, length, drop}
use Rattle.klsm_instance.specs.Prepared.{IsTail, AreTails}
use Rattle.klsm_instance.proofs.tail.tails_of.Given as goal

abbrev pub invariant-loop-n : goal.invariant-loop-n
invariant-loop-n l = record {
  as_many : length l.tails.items ≡ l.n + 1;
  tail : IsTail (drop (length l.things - l.n) l.things) l.tail;
  are : AreTails l.things l.tails.items;
}
