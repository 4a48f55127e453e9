use Rattle.std.proofs.Common.{rules}
use Rattle.klsm_owned.proofs.owned.OwnedMember.try_share.Goals as goal

pub returns-clause-tries : goal.returns-clause-tries
returns-clause-tries c = record {
  ok = c.try_share.ensures.ok;
  adds = c.try_share.ensures.adds;
  refused = c.try_share.ensures.refused;
  choice = search rules;
  balancing = search rules;
}
