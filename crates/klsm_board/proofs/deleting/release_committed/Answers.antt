use Rattle.std.proofs.Common.{◌∷◌, ◌++◌, ◌∙◌, [], ap, sym, append_assoc, inl}
use Rattle.klsm_schedules.specs.declared.step.Entry.TheVariants.{Committed, Released}
use Rattle.klsm_schedules.specs.OwnSteps.{work_of}
use Rattle.klsm_board.specs.Steps.{mine}
use Rattle.klsm_board.specs.Entries.{own_marked}
use Rattle.klsm_board.proofs.lemmas.hands.WorkLemmas.{work_append}
use Rattle.klsm_board.proofs.deleting.release_committed.Goals as goal

pub release_marked-requires-clause-carries : goal.release_marked-requires-clause-carries
release_marked-requires-clause-carries g c =
    let k = c.requires.out in let out = k.2 in let left = c.commit_with_shared.ensures.released k.0 k.1 out.carries in
    (k.0, left.0, left.1)

pub release_marked-requires-clause-key : goal.release_marked-requires-clause-key
release_marked-requires-clause-key g c =
    let es = mine c.args.seat.now.me.0 in
    inl (c.requires.key ∙ sym (ap work_of c.commit_with_shared.ensures.list ∙ work_append es (Committed c.args.event.now ∷ Released 0 ∷ [])))

pub returns-clause-has : goal.returns-clause-has
returns-clause-has g c =
    let k = c.requires.out in let out = k.2 in let left = c.commit_with_shared.ensures.released k.0 k.1 out.carries in
    c.release_marked.ensures.has

pub returns-clause-list : goal.returns-clause-list
returns-clause-list g c =
    let t = c.args.thread in let event = c.args.event.now in let key = c.args.key in
    c.release_marked.ensures.list ∙ (ap (λ z. z ++ own_marked t key) c.commit_with_shared.ensures.list
    ∙ append_assoc (mine c.args.seat.now.me.0) (Committed event ∷ Released 0 ∷ []) (own_marked t key))
