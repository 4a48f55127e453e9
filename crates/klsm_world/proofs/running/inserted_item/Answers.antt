use Rattle.std.proofs.Common.{rules}
use Rattle.klsm_world.proofs.running.inserted_item.Goals as goal

pub returns-in-Flush : goal.returns-in-Flush
returns-in-Flush c = search rules
