use Rattle.std.proofs.Common.{rules}
use Rattle.klsm_run.proofs.item.Item.is_before.Goals as goal

pub returns : goal.returns
returns c = search rules
