use Rattle.std.proofs.Common.{◌≡◌, ◌+◌, ◌-◌, ◌≤◌, ◌↔◌, ℕ, IsTrue, drop, length, ap, subst, arith, rules}
use Rattle.std.proofs.lemmas.Bool.{leb-true}
use Rattle.klsm_instance.specs.Selections.{Problem, value_of, weight_of}
use Rattle.klsm_instance.specs.Limits.{IsThing}
use Rattle.klsm_instance.specs.Nodes.{IsBound, IsGain}
use Rattle.klsm_instance.specs.Prepared.{IsTail}
use Rattle.klsm_instance.proofs.BoundLemmas.{all_drop, bound_sound}
use Rattle.klsm_instance.proofs.SearchLemmas.{covers_more}
use Rattle.klsm_instance.proofs.TailLemmas.{tail_at, tail_small, steepest_thing, few_from, gain_of}
use Rattle.klsm_instance.proofs.instance.Instance.is_bounded_with.Goals as goal
use Rattle.klsm_instance.proofs.instance.Instance.is_bounded_with.Goals.{After-index-tail}

tail_is : (c : After-index-tail) → IsTail (drop c.args.level c.self.inside.things.items) c.index-tail.result.now
tail_is c =
    let level = rw (← c.self.view_is) at c.requires.node.of_things in
    let long : c.len.result ≡ length c.self.inside.things.items = search rules in
    tail_at c.self.inside.capacity c.self.inside.things.items c.self.inside.tails.items c.args.level c.index-tail.result.now c.self.invariant level (rw long at c.index-tail.ensures)

pub gains_at_most-requires-clause-value : goal.gains_at_most-requires-clause-value
gains_at_most-requires-clause-value c =
    let range = c.self.invariant.in_range in
    tail_small _ _ (few_from _ c.args.level range) (all_drop IsThing _ _ range.things_are) (tail_is c.before.before.before.before)

pub gains_at_most-requires-clause-steepest : goal.gains_at_most-requires-clause-steepest
gains_at_most-requires-clause-steepest c = steepest_thing _ _ (all_drop IsThing _ _ c.self.invariant.in_range.things_are) (tail_is c.before.before.before.before).steepest

-- the bound by what the other things can add
bound_by : (p : Problem) (l q value weight gain : ℕ) → value ≡ value_of p q → weight ≡ weight_of p q → IsGain (drop l p.things) (p.capacity - weight) gain → IsBound p l q (value + gain)
bound_by p l q value weight gain is_value is_weight gains = (gain, subst (λ (w : ℕ). IsGain (drop l p.things) (p.capacity - w) gain) is_weight gains, ap (λ n. n + gain) is_value)

pub returns-then-taken-value-clause-exact : goal.returns-then-taken-value-clause-exact
returns-then-taken-value-clause-exact c =
    let told : (gain : ℕ) × IsGain (drop c.args.level c.args.self.now.things) (c.args.self.now.capacity - c.args.taken.weight) gain × (IsTrue c.gains_at_most.result ↔ (gain ≤ c.args.value - c.args.taken.value)) = rw (← c.self.view_is) (c.gains_at_most.ensures _ (tail_is c.before.before.before.before.before)) in
    (c.args.taken.value + told.0, bound_by c.args.self.now c.args.level c.args.picks c.args.taken.value c.args.taken.weight told.0 c.requires.value c.requires.weight told.1, (λ yes. omega (arith, told.2.0 yes, c.if-taken-value.true), λ le. told.2.1 (omega (arith, le))))

pub returns-then-taken-value-clause-sound : goal.returns-then-taken-value-clause-sound
returns-then-taken-value-clause-sound c = λ yes.
    let told : (gain : ℕ) × IsGain (drop c.args.level c.args.self.now.things) (c.args.self.now.capacity - c.args.taken.weight) gain × (IsTrue c.gains_at_most.result ↔ (gain ≤ c.args.value - c.args.taken.value)) = rw (← c.self.view_is) (c.gains_at_most.ensures _ (tail_is c.before.before.before.before.before)) in
    let is : IsBound c.args.self.now c.args.level c.args.picks (c.args.taken.value + told.0) = bound_by c.args.self.now c.args.level c.args.picks c.args.taken.value c.args.taken.weight told.0 c.requires.value c.requires.weight told.1 in
    covers_more c.args.self.now c.args.level c.args.picks (c.args.taken.value + told.0) c.args.value (omega (arith, told.2.0 yes, c.if-taken-value.true)) (bound_sound c.args.self.now c.args.level c.args.picks _ (rw (← c.self.view_is) c.self.invariant.in_range) is)

pub returns-else-taken-value-clause-exact : goal.returns-else-taken-value-clause-exact
returns-else-taken-value-clause-exact c =
    let gained : (gain : ℕ) × IsGain (drop c.args.level c.args.self.now.things) (c.args.self.now.capacity - c.args.taken.weight) gain = rw (← c.self.view_is) (gain_of _ c.index-tail.result.now (c.self.inside.capacity - c.args.taken.weight) (tail_is c.before.before)) in
    (c.args.taken.value + gained.0, bound_by c.args.self.now c.args.level c.args.picks c.args.taken.value c.args.taken.weight gained.0 c.requires.value c.requires.weight gained.1, (λ yes. absurd (omega (arith, leb-true _ _ yes, c.if-taken-value.false)), λ le. absurd (omega (arith, le, c.if-taken-value.false))))
