use Rattle.std.proofs.Common.{◌∙◌}
use Rattle.klsm_parts.proofs.unions.Unions.exchange.Goals as goal

pub returns : goal.returns
returns g c = c.hand_out.ensures ∙ c.collect.ensures
