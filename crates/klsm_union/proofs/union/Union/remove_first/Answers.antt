use Rattle.std.proofs.Common.{◌≡◌, ◌≤◌, ◌++◌, ap, length, drop, arith}
use Rattle.klsm_run.specs.Content.{sorted}
use Rattle.klsm_union.proofs.UnionLemmas.{length_both, union_less}
use Rattle.klsm_union.proofs.union.Union.remove_first.Goals as goal

pub shares-lefts-requires-clause-count : goal.shares-lefts-requires-clause-count
shares-lefts-requires-clause-count g c =
    omega (arith, c.requires, ap length c.as_slice.ensures.items, ap length c.as_slice-2.ensures.items, length_both c.self.inside.left c.self.inside.right, ap length c.self.view_is)

pub invariant_of-self : goal.invariant_of-self
invariant_of-self g c =
    let left = c.self.inside.left in
    let right = c.self.inside.right in
    let few : c.args.count ≤ length (sorted (left ++ right)) = omega (arith, c.requires, ap length c.self.view_is) in
    let rest : sorted (drop c.shares-lefts.result.0 left ++ drop c.shares-lefts.result.1 right) ≡ drop c.args.count (sorted (left ++ right)) =
    rw (c.as_slice.ensures.items, c.as_slice-2.ensures.items) at c.shares-lefts.ensures.rest in
    rw (c.remove_first.ensures, c.remove_first-2.ensures) (union_less left right _ c.shares-lefts.result.0 c.shares-lefts.result.1 c.args.count c.self.invariant few rest)
