use Rattle.std.proofs.Common.{rules}
use Rattle.klsm_run.proofs.span.Span.unite.Goals as goal

pub unite_at-requires-clause-apart : goal.unite_at-requires-clause-apart
unite_at-requires-clause-apart c = rw c.with_room-start.ensures.kept c.requires.apart

pub returns-clause-united : goal.returns-clause-united
returns-clause-united c = search rules
