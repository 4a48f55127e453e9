use Rattle.std.proofs.Common.{◌≡◌, ◌+◌, ◌*◌, ◌%◌, ◌^◌, ◌≤◌, ℕ, arith, refl}
use Rattle.klsm_instance.specs.Selections.{weight_of}
use Rattle.klsm_instance.proofs.TailLemmas.{value_small}
use Rattle.klsm_instance.proofs.SearchLemmas.{taking_node, value_with, weight_with, shifted}
use Rattle.klsm_instance.proofs.instance.Instance.taking.Goals as goal

pub returns-then-thing-capacity : goal.returns-then-thing-capacity
returns-then-thing-capacity c =
    let p = c.args.self.now in
    let more = weight_with p c.args.node.now.level c.args.node.now.picks c.thing-thing.result c.thing-thing.ensures.thing c.requires.node.is_node.of_level in
    omega (arith, more, c.if-thing-capacity.true, c.capacity.ensures, c.requires.node.weight, c.requires.node.is_node.fits)

pub overflow_add-result-3 : goal.overflow_add-result-3
overflow_add-result-3 c =
    let p = c.args.self.now in
    let l : ℕ = c.args.node.now.level in
    let q : ℕ = c.args.node.now.picks in
    omega (arith, value_with p l q c.thing-thing.result c.thing-thing.ensures.thing c.requires.node.is_node.of_level, value_small p (q + 2 ^ l) c.thing-thing.ensures.range, c.requires.node.value)

pub returns : goal.returns
returns c =
    let p = c.args.self.now in
    let l : ℕ = c.args.node.now.level in
    let q : ℕ = c.args.node.now.picks in
    let x = c.thing-thing.result in
    let found = c.thing-thing.ensures.thing in
    let few = c.thing-thing.ensures.range.few in
    let node = c.requires.node in
    let free = c.requires.free in
    let shift : 1 * 2 ^ l % 18446744073709551616 ≡ 2 ^ l = shifted l (omega arith) in
    let fits : weight_of p q + x.weight ≤ p.capacity = omega (arith, c.if-thing-capacity.false, c.capacity.ensures, node.weight, node.is_node.fits) in
    rw shift (
      record {
        is_node = taking_node p l q x found fits node.is_node;
        value = omega (arith, value_with p l q x found node.is_node.of_level, node.value);
        weight = omega (arith, weight_with p l q x found node.is_node.of_level, node.weight);
      },
      refl,
      refl,
    )
