use Rattle.std.proofs.Common.{rules}
use Rattle.klsm_owned.proofs.owned.OwnedMember.try_bound.Goals as goal

pub returns-clause-tries : goal.returns-clause-tries
returns-clause-tries c = record {
  ok = c.try_bound.ensures.ok;
  live = c.try_bound.ensures.live;
  adds = c.try_bound.ensures.adds;
  busy = c.try_bound.ensures.busy;
  choice = search rules;
  balancing = search rules;
}
