use Rattle.std.proofs.Common.{◌⊎◌, ◌≡◌, ◌∷◌, ◌++◌, ◌∙◌, [], ap, append_assoc, subst, sym}
use Rattle.klsm_schedules.specs.declared.step.Entry.TheVariants.{Released}
use Rattle.klsm_schedules.specs.OwnSteps.{no_key, work_of}
use Rattle.klsm_board.specs.Entries.{own_marked}
use Rattle.klsm_board.specs.Steps.{mine}
use Rattle.klsm_board.proofs.lemmas.hands.WorkLemmas.{work_append}
use Rattle.klsm_board.proofs.lemmas.table.SeatLemmas.{mine_released, released_others}
use Rattle.klsm_board.proofs.marking.release_both_marked.Goals as goal

pub release_shared-requires-clause-carries : goal.release_shared-requires-clause-carries
release_shared-requires-clause-carries g c = let k = c.requires.carries in (k.0, k.0, k.1, k.2, k.3)

pub release_marked-requires-clause-carries : goal.release_marked-requires-clause-carries
release_marked-requires-clause-carries g c =
    let k = c.requires.carries in let left = c.release_shared.ensures.carries k.0 k.0 k.1 k.2 k.3 in (k.0, left.0, left.1)

pub release_marked-requires-clause-key : goal.release_marked-requires-clause-key
release_marked-requires-clause-key g c =
    let me = c.args.seat.now.me in let k = c.requires.carries in let carries = k.2 in
    let list = mine_released g.S.Holding.content g.S.Holding.suits c.args.table.now.key c.args.thread 0 me c.release_shared.new.seat.me carries.acts c.release_shared.ensures.same.2 in
    subst (λ n. (c.args.key ≡ n) ⊎ (c.args.key ≡ no_key)) (sym (ap work_of list ∙ work_append (mine me.0) (Released 0 ∷ []))) c.requires.key

pub returns-clause-has : goal.returns-clause-has
returns-clause-has g c =
    let k = c.requires.carries in let left = c.release_shared.ensures.carries k.0 k.0 k.1 k.2 k.3 in
    c.release_marked.ensures.has

pub returns-clause-others : goal.returns-clause-others
returns-clause-others g c =
    c.release_marked.ensures.others
    ∙ released_others g.S.Holding.content g.S.Holding.suits c.args.table.now.key c.args.thread 0 c.args.seat.now.me c.release_shared.new.seat.me c.release_shared.ensures.same.2

pub returns-clause-list : goal.returns-clause-list
returns-clause-list g c =
    let me = c.args.seat.now.me in let t = c.args.thread in let k = c.requires.carries in let carries = k.2 in
    let list = mine_released g.S.Holding.content g.S.Holding.suits c.args.table.now.key t 0 me c.release_shared.new.seat.me carries.acts c.release_shared.ensures.same.2 in
    c.release_marked.ensures.list ∙ (ap (λ z. z ++ own_marked t c.args.key) list ∙ append_assoc (mine me.0) (Released 0 ∷ []) (own_marked t c.args.key))
