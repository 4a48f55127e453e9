use Rattle.std.proofs.Common.{◌+◌, ◌∷◌, ◌++◌, ◌∙◌, [], ap, refl, append_assoc}
use Rattle.klsm_schedules.specs.declared.step.Entry.TheVariants.{Marked, Released}
use Rattle.klsm_board.specs.Steps.{mine}
use Rattle.klsm_board.proofs.lemmas.seats.StandLemmas.{stands}
use Rattle.klsm_board.proofs.marking.release_marked.Goals as goal

pub release_part-requires-clause-has : goal.release_part-requires-clause-has
release_part-requires-clause-has g c =
    let k = c.requires.carries in
    (k.0, [], stands (c.mark.ensures.has k.0 k.1 k.2), refl)

pub returns-clause-has : goal.returns-clause-has
returns-clause-has g c =
    let k = c.requires.carries in
    c.release_part.ensures.released k.0 [] (stands (c.mark.ensures.has k.0 k.1 k.2)) refl

pub returns-clause-list : goal.returns-clause-list
returns-clause-list g c =
    let t = c.args.thread in
    c.release_part.ensures.list ∙ (ap (λ z. z ++ Released (t + 1) ∷ []) c.mark.ensures.list
    ∙ append_assoc (mine c.args.seat.now.me.0) (Marked c.args.key ∷ []) (Released (t + 1) ∷ []))
