use Rattle.std.proofs.Common.{◌+◌, arith, ap}
use Rattle.klsm_instance.specs.Nodes.{IsBound}
use Rattle.klsm_instance.proofs.BoundLemmas.{bound_sound}
use Rattle.klsm_instance.proofs.TailLemmas.{value_small, bound_small}
use Rattle.klsm_instance.proofs.instance.Instance.bound_with.Goals as goal

exact : (c : goal.After-struct_known-2-1) → IsBound c.args.self.now c.args.level c.args.picks (c.args.taken.value + c.gain.result)
exact c = (c.gain.result, rw (c.requires.weight, ap (λ p. p.capacity) c.self.view_is) at c.gain.ensures.gain, ap (λ n. n + c.gain.result) c.requires.value)

pub returns-clause-exact : goal.returns-clause-exact
returns-clause-exact c = exact c

pub returns-clause-sound : goal.returns-clause-sound
returns-clause-sound c =
    bound_sound c.args.self.now c.args.level c.args.picks (c.args.taken.value + c.gain.result) c.gain.ensures.range (exact c)

pub overflow_add-result : goal.overflow_add-result
overflow_add-result c = omega (arith, value_small c.args.self.now c.args.picks c.gain.ensures.range, c.requires.value, c.gain.ensures.small)

pub returns-clause-small : goal.returns-clause-small
returns-clause-small c = bound_small c.args.self.now c.args.level c.args.picks (c.args.taken.value + c.gain.result) c.gain.ensures.range c.requires.node.of_level (exact c)
