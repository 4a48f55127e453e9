use Rattle.std.proofs.Common.{◌≡◌, ◌+◌, ◌<◌, length, arith, rules}
use Rattle.klsm_test_support.proofs.OwnerLemmas.{owned_apart, owned_after}
use Rattle.klsm_test_support.proofs.grown.RationedGrown.absorb_copy.Goals as goal

pub absorb_copy-answer-requires : goal.absorb_copy-answer-requires
absorb_copy-answer-requires c =
    let grown = c.args.self.now in
    let some : 0 < length c.run_of-run.result = omega (arith, c.run_of-run.ensures.len, c.are_keys.ensures.some c.if-not-are_keys.false) in
    (search rules, (some, owned_apart grown.owners grown.lsm c.run_of-run.result grown.owned c.run_of-run.ensures.owner))

pub invariant_of-self : goal.invariant_of-self
invariant_of-self c =
    let grown = c.args.self.now in
    let next : c.in-Some.next ≡ grown.owners + 1 = search rules in
    record { owned = owned_after c.absorb_copy-answer.result grown.owners c.in-Some.next grown.lsm c.absorb_copy-answer.new.self c.run_of-run.result c.absorb_copy-answer.ensures.added c.absorb_copy-answer.ensures.unchanged next grown.owned c.run_of-run.ensures.owner }
