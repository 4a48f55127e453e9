use Rattle.std.proofs.Common.{◌+◌, ◌-◌, sym, ap}
use Rattle.std.specs.Prelude.{if◌then◌else◌}
use Rattle.std.proofs.lemmas.Bool.{lt-ltb}
use Rattle.klsm_board.proofs.spying.victim_at.Goals as goal

pub returns-then-victim-threads-clause-value : goal.returns-then-victim-threads-clause-value
returns-then-victim-threads-clause-value c =
    let sum = c.args.thread + c.args.step in
    sym (ap (λ b. if b then sum else sum - c.args.threads) (lt-ltb sum c.args.threads c.if-victim-threads.true))
