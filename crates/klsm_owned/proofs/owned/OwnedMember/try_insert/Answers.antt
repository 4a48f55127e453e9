use Rattle.std.proofs.Common.{rules}
use Rattle.klsm_owned.proofs.owned.OwnedMember.try_insert.Goals as goal

pub returns-clause-tries : goal.returns-clause-tries
returns-clause-tries c = record {
  stamp = c.try_insert.ensures.stamp;
  ok = c.try_insert.ensures.ok;
  adds = c.try_insert.ensures.adds;
  refused = c.try_insert.ensures.refused;
  spent = c.try_insert.ensures.spent;
  choice = search rules;
  balancing = search rules;
}
