use Rattle.std.proofs.Common.{◌≡◌, ◌+◌, [], ◌∷◌, rules}
use Rattle.klsm_test_support.proofs.OwnerLemmas.{owned_after, owned_new}
use Rattle.klsm_test_support.proofs.grown.FixedGrown.insert.Goals as goal

pub insert-answer-requires : goal.insert-answer-requires
insert-answer-requires c =
    let grown = c.args.self.now in
    (search rules, (search rules, (search rules, owned_new grown.owners grown.lsm c.item.result grown.owned c.item.ensures.owner)))

pub invariant_of-self : goal.invariant_of-self
invariant_of-self c =
    let grown = c.args.self.now in
    let next : c.in-Some.next ≡ grown.owners + 1 = search rules in
    record { owned = owned_after c.insert-answer.result grown.owners c.in-Some.next grown.lsm c.insert-answer.new.self (c.item.result ∷ []) c.insert-answer.ensures.added c.insert-answer.ensures.unchanged next grown.owned (c.item.ensures.owner, tt) }
