use Rattle.std.proofs.Common.{arith}
use Rattle.klsm_instance.specs.Nodes.{IsSteepest}
use Rattle.klsm_instance.proofs.BoundLemmas.{steeper_first, steeper_other}
use Rattle.klsm_instance.proofs.tail.steeper.Goals as goal

pub returns-then-a-b : goal.returns-then-a-b
returns-then-a-b c = λ xs steep.
    let steep_is : IsSteepest xs c.in-Some.b = rw c.in-Some.is at steep in
    steeper_other c.args.a c.in-Some.b xs (omega arith) steep_is

pub returns-else-a-b : goal.returns-else-a-b
returns-else-a-b c = λ xs steep.
    let steep_is : IsSteepest xs c.in-Some.b = rw c.in-Some.is at steep in
    let thing = rw c.in-Some.is at c.requires.b in
    steeper_first c.args.a c.in-Some.b xs thing.some_weight c.if-a-b.false steep_is
