use Rattle.std.proofs.Common.{[], ◌∷◌, ◌++◌, refl, ap, ◌∙◌, arith, append_assoc, length-append}
use Rattle.klsm_schedules.specs.declared.step.Entry.TheVariants.{Released}
use Rattle.klsm_board.specs.Bounding.{owns_in_hand, owns_items, owns_released}
use Rattle.klsm_board.specs.Steps.{mine}
use Rattle.klsm_board.proofs.lemmas.calls.BoundingLemmas.{owns_lack_shared}
use Rattle.klsm_board.proofs.bounding.read_all.Goals as goal

pub read_part-shared-requires-clause-has : goal.read_part-shared-requires-clause-has
read_part-shared-requires-clause-has g c =
    let k = c.requires.has in let both = length-append k.1 (owns_items k.0) in
    (k.1, owns_in_hand k.0, k.3, owns_lack_shared k.0, omega (arith, k.4, both))

pub read_owns-requires-clause-has : goal.read_owns-requires-clause-has
read_owns-requires-clause-has g c =
    let k = c.requires.has in let first = c.read_part-shared.ensures in
    (k.0, k.1, k.2, first.released k.1 (owns_in_hand k.0) k.3 (owns_lack_shared k.0), first.read k.1 (owns_in_hand k.0) [] k.3 (record { least = refl; counted = refl }), k.4)

pub returns-clause-list : goal.returns-clause-list
returns-clause-list g c =
    let es = mine c.args.seat.now.me.0 in
    c.read_owns.ensures.list ∙ (ap (λ z. z ++ owns_released c.args.threads) c.read_part-shared.ensures.list ∙ append_assoc es (Released 0 ∷ []) (owns_released c.args.threads))

pub returns-clause-work : goal.returns-clause-work
returns-clause-work g c = c.read_owns.ensures.work ∙ c.read_part-shared.ensures.work

pub returns-clause-read : goal.returns-clause-read
returns-clause-read g c owns shared many has =
    let first = c.read_part-shared.ensures in
    c.read_owns.ensures.read owns shared many (first.released shared (owns_in_hand owns) has (owns_lack_shared owns)) (first.read shared (owns_in_hand owns) [] has (record { least = refl; counted = refl }))
