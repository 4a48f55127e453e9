use Rattle.std.proofs.Common.{◌*◌, ◌/◌, arith, refl}
use Rattle.klsm_instance.specs.Limits.{IsThing}
use Rattle.klsm_instance.proofs.TailLemmas.{gain_by, gain_none, lesser_by_sum, lesser_by_product}
use Rattle.klsm_instance.proofs.tail.Tail.gains_at_most.Goals as goal

pub returns-in-None : goal.returns-in-None
returns-in-None c = λ xs tail. (0, gain_none xs c.args.self.now c.args.left tail c.in-None.is, (λ yes. omega arith, λ le. refl))

pub returns-then-self-most : goal.returns-then-self-most
returns-then-self-most c = λ xs tail.
    let x = c.in-Some.thing in
    (_, gain_by xs c.args.self.now x c.args.left tail c.in-Some.is, lesser_by_sum c.args.self.now.value (c.args.left * x.value / x.weight) c.args.most c.if-self-most.true)

pub returns-else-self-most : goal.returns-else-self-most
returns-else-self-most c = λ xs tail.
    let x = c.in-Some.thing in
    let thing : IsThing x = rw c.in-Some.is at c.requires.steepest in
    (_, gain_by xs c.args.self.now x c.args.left tail c.in-Some.is, lesser_by_product c.args.self.now.value (c.args.left * x.value) x.weight c.args.most thing.some_weight (λ le. omega (arith, le, c.if-self-most.false)))
