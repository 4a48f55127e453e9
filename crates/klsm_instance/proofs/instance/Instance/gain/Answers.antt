use Rattle.std.proofs.Common.{drop, length, ◌≡◌, rules}
use Rattle.klsm_instance.specs.Limits.{IsThing}
use Rattle.klsm_instance.specs.Prepared.{IsTail}
use Rattle.klsm_instance.proofs.BoundLemmas.{all_drop}
use Rattle.klsm_instance.proofs.TailLemmas.{tail_at, tail_small, steepest_thing, few_from, gain_small}
use Rattle.klsm_instance.proofs.instance.Instance.gain.Goals as goal

tail_is : (c : goal.After-index) → IsTail (drop c.args.level c.self.inside.things.items) c.index.result.now
tail_is c =
    let level = rw (← c.self.view_is) at c.requires.level in
    let long : c.len.result ≡ length c.self.inside.things.items = search rules in
    tail_at c.self.inside.capacity c.self.inside.things.items c.self.inside.tails.items c.args.level c.index.result.now c.self.invariant level (rw long at c.index.ensures)

pub gain-requires-clause-value : goal.gain-requires-clause-value
gain-requires-clause-value c =
    let range = c.self.invariant.in_range in
    tail_small _ _ (few_from _ c.args.level range) (all_drop IsThing _ _ range.things_are) (tail_is c)

pub gain-requires-clause-steepest : goal.gain-requires-clause-steepest
gain-requires-clause-steepest c = steepest_thing _ _ (all_drop IsThing _ _ c.self.invariant.in_range.things_are) (tail_is c).steepest

tail_then : (c : goal.After-gain) → IsTail (drop c.args.level c.self.inside.things.items) c.index.result.now
tail_then c =
    let level = rw (← c.self.view_is) at c.requires.level in
    let long : c.len.result ≡ length c.self.inside.things.items = search rules in
    tail_at c.self.inside.capacity c.self.inside.things.items c.self.inside.tails.items c.args.level c.index.result.now c.self.invariant level (rw long at c.index.ensures)

pub returns-clause-gain : goal.returns-clause-gain
returns-clause-gain c = rw (← c.self.view_is) (c.gain.ensures _ (tail_then c))

pub returns-clause-small : goal.returns-clause-small
returns-clause-small c =
    let range = c.self.invariant.in_range in
    gain_small _ _ _ (few_from _ c.args.level range) (all_drop IsThing _ _ range.things_are) (c.gain.ensures _ (tail_then c))
