use Rattle.std.proofs.Common.{length, ◌-◌}
use Rattle.klsm_instance.proofs.instance.Instance.+finish.Given as goal

abbrev pub decreases-finish : goal.decreases-finish
decreases-finish l = length l.self.now.things - l.node.level
