use Rattle.std.proofs.Common.{◌∙◌}
use Rattle.klsm_parts.proofs.picker.random_of.Goals as goal

pub returns : goal.returns
returns g = g.new.ensures ∙ g.seed_from_u64.ensures
