use Rattle.std.proofs.Common.{◌≤◌, arith, sym, subst}
use Rattle.std.proofs.Math.Pow.{shr_mono}
use Rattle.klsm_instance.specs.Selections.{Problem, IsFeasible}
use Rattle.klsm_instance.proofs.NodeLemmas.{own_feasible}
use Rattle.klsm_instance.proofs.TailLemmas.{value_small}
use Rattle.klsm_knapsack.specs.Numbers.{IsIncumbent, value_in}
use Rattle.klsm_knapsack.proofs.incumbent.Incumbent.raise_to.Goals as goal

pub packed-number-requires-clause-high : goal.packed-number-requires-clause-high
packed-number-requires-clause-high c =
    omega (arith, value_small c.args.instance.now c.args.node.now.picks c.requires.range, c.requires.node.value)

pub raise-found-requires-clause-number : goal.raise-found-requires-clause-number
raise-found-requires-clause-number c =
    let node = c.requires.node in
    let feasible : IsFeasible c.args.instance.now c.args.node.now.picks = own_feasible _ _ _ node.is_node in
    let is : IsIncumbent c.args.instance.now c.packed-number.result = record {
      feasible = rw c.packed-number.ensures.low feasible;
      value = rw (c.packed-number.ensures.low, c.packed-number.ensures.high) node.value;
    } in
    subst (λ (p : Problem). IsIncumbent p c.packed-number.result) (sym c.requires.problem) is

pub returns-clause-raises : goal.returns-clause-raises
returns-clause-raises c =
    let grown : value_in c.packed-number.result ≤ value_in c.raise-found.result = shr_mono 32 c.raise-found.ensures.found.2 in
    omega (arith, grown, c.packed-number.ensures.high, c.requires.node.value)
