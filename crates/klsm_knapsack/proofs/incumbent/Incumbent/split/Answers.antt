use Rattle.std.proofs.Common.{arith, rules}
use Rattle.klsm_knapsack.proofs.RuleLemmas.{divides}
use Rattle.klsm_knapsack.proofs.incumbent.Incumbent.split.Goals as goal

pub split_seat-requires : goal.split_seat-requires
split_seat-requires c =
    let i = c.args.self.now in
    let seat = c.args.seat.now.table_seat in
    (c.requires, omega (arith, i.one_word), divides i.table.shared.key seat.id seat.me.0)

pub returns-clause-kept : goal.returns-clause-kept
returns-clause-kept c = search rules

pub returns-clause-new : goal.returns-clause-new
returns-clause-new c = search rules
