use Rattle.std.proofs.Common.{◌≡◌, ◌≤◌, ◌-◌, ◌*◌, ◌%◌, ◌^◌, arith, ap, ◌∙◌}
use Rattle.std.specs.Ordering.{ord_min, nat_cmp}
use Rattle.std.proofs.Math.Pow.{pow_mono}
use Rattle.klsm_run.specs.declared.limits.TheConstants.{MOST_LEVELS, MOST_SHARED}
use Rattle.klsm_pile.proofs.PileLemmas.{lesser_is_min}
use Rattle.klsm_pile.proofs.pile.Pile.limit.Goals as goal

pub returns : goal.returns
returns g c =
    let last : g.row.LEVELS - 1 ≤ MOST_LEVELS - 1 = omega (arith, c.self.invariant.levels_in_range.at_most) in
    let few : 2 ^ (g.row.LEVELS - 1) ≤ 2 ^ (MOST_LEVELS - 1) = pow_mono last in
    let is : 1 * 2 ^ (g.row.LEVELS - 1) % 18446744073709551616 ≡ 2 ^ (g.row.LEVELS - 1) = omega (arith, few) in
    c.min.ensures ∙ (ap (λ n. ord_min nat_cmp n MOST_SHARED) is ∙ lesser_is_min (2 ^ (g.row.LEVELS - 1)) MOST_SHARED)
