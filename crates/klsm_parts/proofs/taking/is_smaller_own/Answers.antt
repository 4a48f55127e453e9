use Rattle.std.proofs.Common.{rules}
use Rattle.klsm_parts.proofs.taking.is_smaller_own.Goals as goal

pub returns : goal.returns
returns c = search rules
