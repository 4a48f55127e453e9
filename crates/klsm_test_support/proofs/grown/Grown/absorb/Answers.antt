use Rattle.std.proofs.Common.{◌≡◌, ◌+◌, rules}
use Rattle.klsm_test_support.proofs.OwnerLemmas.{owned_apart, owned_after}
use Rattle.klsm_test_support.proofs.grown.Grown.absorb.Goals as goal

pub absorb-answer-requires : goal.absorb-answer-requires
absorb-answer-requires g c =
    let grown = c.args.self.now in
    (search rules, (c.requires.some, owned_apart grown.owners grown.lsm (g.R.Run.items c.args.run) grown.owned c.requires.owned))

pub invariant_of-self : goal.invariant_of-self
invariant_of-self g c =
    let grown = c.args.self.now in
    let next : c.in-Some.next ≡ grown.owners + 1 = search rules in
    record { owned = owned_after c.absorb-answer.result grown.owners c.in-Some.next grown.lsm c.absorb-answer.new.self _ c.absorb-answer.ensures.added c.absorb-answer.ensures.unchanged next grown.owned c.requires.owned }
