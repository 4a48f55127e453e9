use Rattle.std.proofs.Common.{rules}
use Rattle.klsm_test_support.proofs.rationed.Ration.take.Goals as goal

pub returns-clause-left : goal.returns-clause-left
returns-clause-left c = search rules

pub returns-in_default-clause-taken : goal.returns-in_default-clause-taken
returns-in_default-clause-taken c = search rules

pub returns-in_default-clause-refused : goal.returns-in_default-clause-refused
returns-in_default-clause-refused c = search rules
