use Rattle.std.proofs.Common.{arith, rules}
use Rattle.klsm_knapsack.proofs.RuleLemmas.{gathers}
use Rattle.klsm_knapsack.proofs.incumbent.Incumbent.join.Goals as goal

pub join_seat-requires : goal.join_seat-requires
join_seat-requires c =
    let i = c.args.self.now in
    let seat = c.args.seat.now.table_seat in
    let other = c.args.other.table_seat in
    (c.requires.one, c.requires.other, c.args.other.empty_handed, omega (arith, i.one_word), gathers i.table.shared.key seat.id seat.me.0 other.id other.me.0)

pub returns-clause-both : goal.returns-clause-both
returns-clause-both c = search rules
