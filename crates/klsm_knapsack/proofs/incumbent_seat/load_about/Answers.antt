use Rattle.std.proofs.Common.{sym, subst, arith}
use mathlib.Core.Option.{none}
use Rattle.atomic_table.specs.Table.{Allows, step}
use Rattle.klsm_instance.specs.Selections.{Problem}
use Rattle.klsm_knapsack.specs.Highest.{IsHighest, finds}
use Rattle.klsm_knapsack.specs.Numbers.{IsIncumbent}
use Rattle.klsm_knapsack.proofs.RuleLemmas.{load_allows}
use Rattle.klsm_knapsack.proofs.incumbent_seat.load_about.Goals as goal

pub load-requires : goal.load-requires
load-requires g c =
    let i = c.args.incumbent.now in let seat = c.args.seat.now.table_seat in
    let p = i.table.shared.key in let slots = i.table.shared.table_id.slots in (
      c.requires.seat,
      omega (arith, i.one_word),
      subst (λ (q : Problem). Allows (IsHighest p) slots seat.id seat.me 0 (λ n. n) (finds q (step slots 0 0 0 none) seat.me)) (sym c.requires.problem)
          (load_allows p slots seat.id seat.me),
    )

pub returns-clause-incumbent : goal.returns-clause-incumbent
returns-clause-incumbent g c = subst (λ (q : Problem). IsIncumbent q c.load.result) c.requires.problem c.load.ensures.2.1
