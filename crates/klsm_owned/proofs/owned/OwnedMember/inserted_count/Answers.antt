use Rattle.std.proofs.Common.{rules}
use Rattle.klsm_owned.proofs.owned.OwnedMember.inserted_count.Goals as goal

pub returns-clause-count : goal.returns-clause-count
returns-clause-count c = search rules

pub returns-clause-within : goal.returns-clause-within
returns-clause-within c = search rules
