use Rattle.std.proofs.Common.{◌+◌, ◌∷◌, ◌++◌, ◌∙◌, [], ap, refl, append_assoc}
use Rattle.klsm_schedules.specs.declared.step.Entry.TheVariants.{Released}
use Rattle.klsm_board.specs.Steps.{mine}
use Rattle.klsm_board.specs.Seats.{own_in_hand}
use Rattle.klsm_board.proofs.lemmas.seats.StandLemmas.{stands}
use Rattle.klsm_board.proofs.lemmas.hands.EventLemmas.{shared_not_in_one}
use Rattle.klsm_board.proofs.steps.release_both.Goals as goal

pub release_part-requires-clause-has : goal.release_part-requires-clause-has
release_part-requires-clause-has g c =
    let t = c.args.thread in let k = c.requires.stands in
    (k.1, own_in_hand t k.0, k.2, shared_not_in_one t k.0)

pub release_part-requires-2-clause-has : goal.release_part-requires-2-clause-has
release_part-requires-2-clause-has g c =
    let t = c.args.thread in let k = c.requires.stands in
    (k.0, [], stands (c.release_part.ensures.released k.1 (own_in_hand t k.0) k.2 (shared_not_in_one t k.0)), refl)

pub returns-clause-has : goal.returns-clause-has
returns-clause-has g c =
    let t = c.args.thread in let k = c.requires.stands in
    c.release_part-2.ensures.released k.0 [] (stands (c.release_part.ensures.released k.1 (own_in_hand t k.0) k.2 (shared_not_in_one t k.0))) refl

pub returns-clause-list : goal.returns-clause-list
returns-clause-list g c =
    let t = c.args.thread in let es = mine c.args.seat.now.me.0 in
    c.release_part-2.ensures.list ∙ (ap (λ z. z ++ Released (t + 1) ∷ []) c.release_part.ensures.list
    ∙ append_assoc es (Released 0 ∷ []) (Released (t + 1) ∷ []))
