use Rattle.klsm_parts.proofs.OwnOrderLemmas.{rule_may_take}
use Rattle.klsm_parts.proofs.laws.own_order_may_take.Goals as goal

pub returns : goal.returns
returns c = rule_may_take
