use Rattle.std.proofs.Common.{arith, ◌≤◌, ◌+◌, ◌-◌, length}
use Rattle.klsm_run.proofs.StoreLemmas.{take_within}
use Rattle.klsm_run.proofs.span.unite_at.Goals as goal

pub unite_back-requires-clause-apart : goal.unite_back-requires-clause-apart
unite_back-requires-clause-apart c =
    let few : c.args.count ≤ c.args.start + c.args.count + length c.args.other.now - c.args.start = omega arith in
    rw (take_within _ _ _ few) c.requires.apart
