use Rattle.std.proofs.Common.{◌≡◌}
use Rattle.klsm_tool.specs.Working.{members_in}
use Rattle.klsm_tool.proofs.live.members_of.Given as goal

abbrev pub invariant-loop-place : goal.invariant-loop-place
invariant-loop-place l = l.members.items ≡ members_in l.yielded
