use Rattle.std.proofs.Common.{rules}
use Rattle.klsm_test_support.proofs.rationed.Ration.new.Goals as goal

pub returns-clause-left : goal.returns-clause-left
returns-clause-left c = search rules

pub returns-clause-fresh : goal.returns-clause-fresh
returns-clause-fresh c = search rules
