use Rattle.std.proofs.Common.{rules}
use Rattle.klsm_world.proofs.world.World.holds_all.Goals as goal

pub returns-then-own-2-clause-held : goal.returns-then-own-2-clause-held
returns-then-own-2-clause-held g c = search rules
