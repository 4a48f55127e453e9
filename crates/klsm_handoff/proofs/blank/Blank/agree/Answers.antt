use Rattle.std.proofs.Common.{◌≡◌, ◌∷◌, [], ◌++◌, length, ap, sym, ◌∙◌, arith}
use Rattle.klsm_handoff.specs.declared.known.Known.{Known}
use Rattle.klsm_handoff.specs.declared.letter.Letter.TheVariants.{Agreed}
use Rattle.klsm_handoff.proofs.blank.Blank.agree.Goals as goal

-- two that know one value are one
same_known : {X : Type 0} (a b : Known X) → a.value ≡ b.value → a ≡ b
same_known a b e i = record { marker = record {}; value = e i }

pub invariant_of-giver-clause-begun : goal.invariant_of-giver-clause-begun
invariant_of-giver-clause-begun g c =
    let same = same_known c.of.result c.of-2.result (c.of.ensures ∙ sym c.of-2.ensures) in
    c.slots_beside-2.ensures.looked.1 ∙ c.slots_beside.ensures.producer.1 ∙ c.push_reserved.ensures.sent.0
    ∙ ap (λ before. before ++ Agreed c.of.result ∷ []) c.args.self.unsent
    ∙ ap (λ terms. Agreed terms ∷ []) same

pub invariant_of-giver-clause-room : goal.invariant_of-giver-clause-room
invariant_of-giver-clause-room g c =
    let pushed = ap length (c.slots_beside-2.ensures.looked.1 ∙ c.slots_beside.ensures.producer.1 ∙ c.push_reserved.ensures.sent.0
    ∙ ap (λ before. before ++ Agreed c.of.result ∷ []) c.args.self.unsent) in
    let popped = ap length (c.slots_beside-2.ensures.consumer.1 ∙ c.pop_known.ensures.received.0
    ∙ ap (λ before. before ++ c.pop_known.result ∷ []) (c.slots_beside.ensures.looked.1 ∙ c.args.self.unreceived)) in
    let room = c.slots_beside-2.ensures.looked.0.1 ∙ c.slots_beside.ensures.producer.0.1 ∙ c.push_reserved.ensures.ring.1 ∙ c.args.self.places in
    let all = c.slots_beside-2.ensures.all_free in let free = c.slots_beside-2.ensures.value in omega (arith, pushed, popped, room, all, free)
