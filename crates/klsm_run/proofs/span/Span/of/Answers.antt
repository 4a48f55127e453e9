use Rattle.std.proofs.Common.{refl}
use Rattle.klsm_run.proofs.span.Span.of.Goals as goal

pub returns : goal.returns
returns c = refl
