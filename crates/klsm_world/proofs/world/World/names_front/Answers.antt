use Rattle.std.proofs.Common.{rules}
use Rattle.klsm_world.proofs.world.World.names_front.Goals as goal

pub returns-in-Early : goal.returns-in-Early
returns-in-Early g c = search rules
