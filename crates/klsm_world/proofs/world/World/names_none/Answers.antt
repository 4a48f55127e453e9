use Rattle.std.proofs.Common.{rules}
use Rattle.klsm_world.proofs.world.World.names_none.Goals as goal

pub returns-else-thread-self-2 : goal.returns-else-thread-self-2
returns-else-thread-self-2 g c = search rules
