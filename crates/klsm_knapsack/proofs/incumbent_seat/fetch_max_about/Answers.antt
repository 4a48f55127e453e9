use Rattle.std.proofs.Common.{max, sym, subst, arith}
use mathlib.Core.Option.{none}
use Rattle.atomic_table.specs.Table.{Allows, step}
use Rattle.klsm_instance.specs.Selections.{Problem}
use Rattle.klsm_knapsack.specs.Highest.{IsHighest, raises}
use Rattle.klsm_knapsack.specs.Numbers.{IsIncumbent}
use Rattle.klsm_knapsack.proofs.RuleLemmas.{max_allows}
use Rattle.klsm_knapsack.proofs.incumbent_seat.fetch_max_about.Goals as goal

pub fetch_max-requires : goal.fetch_max-requires
fetch_max-requires g c =
    let i = c.args.incumbent.now in let seat = c.args.seat.now.table_seat in let number = c.args.number in
    let p = i.table.shared.key in let slots = i.table.shared.table_id.slots in (
      c.requires.seat,
      omega (arith, i.one_word),
      subst (λ (q : Problem). Allows (IsHighest p) slots seat.id seat.me 0 (λ n. max n number) (raises q (step slots 0 number 0 none) seat.me)) (sym c.requires.problem)
          (max_allows p slots seat.id number seat.me c.requires.number),
    )

pub returns-clause-incumbent : goal.returns-clause-incumbent
returns-clause-incumbent g c = subst (λ (q : Problem). IsIncumbent q c.fetch_max.result) c.requires.problem c.fetch_max.ensures.2.1
