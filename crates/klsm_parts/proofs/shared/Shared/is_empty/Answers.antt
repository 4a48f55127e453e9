use Rattle.klsm_parts.proofs.EmptyLemmas.{none_in}
use Rattle.klsm_parts.proofs.shared.Shared.is_empty.Goals as goal

pub returns : goal.returns
returns g c = none_in c.args.self.now c.len.result c.len.ensures.len
