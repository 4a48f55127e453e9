use Rattle.std.proofs.Common.{◌+◌, ◌≤◌, ◌^◌, ℕ, refl, arith}
use Rattle.std.proofs.Math.Nat.{pow-le-pow_right}
use Rattle.klsm_instance.proofs.AlikeLemmas.{ArePassed, passed_first, passed_more}
use Rattle.klsm_instance.proofs.instance.Instance.leaving_alike.Goals as goal

pub loop-level-init : goal.loop-level-init
loop-level-init c = record {
  within = omega (arith, c.requires.free, c.len-len.ensures.len);
  passed = (c.args.node.now.level, refl, passed_first c.args.self.now c.args.node.now.level c.args.node.now.picks c.thing-thing.result c.thing-thing.ensures.thing);
}

pub loop-level-preserved : goal.loop-level-preserved
loop-level-preserved c =
    let p = c.args.self.now in
    let l : ℕ = c.args.node.now.level in
    let q : ℕ = c.args.node.now.picks in
    let passed = c.loop-level.invariant.passed in
    let here = c.if-is_thing.ensures.0 refl in
    let more : ArePassed p l q (passed.0 + 1) c.thing-thing.result = passed_more p l q passed.0 c.thing-thing.result c.requires.node.is_node.of_level (rw passed.1 at here) passed.2 in
    record {
      within = omega (arith, c.loop-level-test.true);
      passed = (passed.0 + 1, omega (arith, passed.1), more);
    }

pub returns-clause-node : goal.returns-clause-node
returns-clause-node c =
    let l : ℕ = c.args.node.now.level in
    let m : ℕ = c.loop-level.level in
    let passed = c.loop-level.invariant.passed in
    let node = c.requires.node in
    let higher : 2 ^ l ≤ 2 ^ m = pow-le-pow_right {n = 2} (omega arith) (omega (arith, passed.1, passed.2.from)) in
    record {
      is_node = record {
        of_things = omega (arith, c.loop-level.invariant.within, c.len-len.ensures.len);
        of_level = omega (arith, node.is_node.of_level, higher);
        fits = node.is_node.fits;
      };
      value = node.value;
      weight = node.weight;
    }

pub returns-clause-covers : goal.returns-clause-covers
returns-clause-covers c = λ n none rest.
    let passed = c.loop-level.invariant.passed in
    passed.2.covers n none (rw passed.1 at rest)
