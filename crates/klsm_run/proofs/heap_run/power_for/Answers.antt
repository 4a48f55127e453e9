use Rattle.std.proofs.Common.{◌≡◌, ◌*◌, ◌^◌, ◌-◌, ◌%◌, ◌≤◌, refl, subst, sym, arith}
use Rattle.std.proofs.Math.Pow.{pow_mono}
use Rattle.klsm_run.specs.declared.limits.TheConstants.{MOST_LEVELS}
use Rattle.klsm_run.specs.Capacity.{IsPowerFor}
use Rattle.klsm_run.proofs.heap_run.power_for.Goals as goal

pub overflow_shl-result : goal.overflow_shl-result
overflow_shl-result c = omega (arith, c.level_of.ensures.least (MOST_LEVELS - 1) c.requires)

pub returns-clause-power : goal.returns-clause-power
returns-clause-power c =
    let few : 2 ^ c.level_of.result ≤ 2 ^ (MOST_LEVELS - 1) = pow_mono (c.level_of.ensures.least (MOST_LEVELS - 1) c.requires) in
    let is : 1 * 2 ^ c.level_of.result % 18446744073709551616 ≡ 2 ^ c.level_of.result = omega (arith, few) in
    subst (IsPowerFor c.args.count) (sym is) record {
      power = (c.level_of.result, refl);
      holds = c.level_of.ensures.enough;
      least = λ l enough. pow_mono (c.level_of.ensures.least l enough);
    }

pub returns-clause-room : goal.returns-clause-room
returns-clause-room c =
    let few : 2 ^ c.level_of.result ≤ 2 ^ (MOST_LEVELS - 1) = pow_mono (c.level_of.ensures.least (MOST_LEVELS - 1) c.requires) in
    omega (arith, few)
