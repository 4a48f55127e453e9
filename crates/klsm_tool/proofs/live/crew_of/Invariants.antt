use Rattle.std.proofs.Common.{◌≡◌, map}
use Rattle.klsm_tool.specs.Working.{ready}
use Rattle.klsm_tool.proofs.live.crew_of.Given as goal

abbrev pub invariant-loop-member : goal.invariant-loop-member
invariant-loop-member l = l.crew.items ≡ map ready l.yielded
