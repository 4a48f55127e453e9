use Rattle.std.proofs.Common.{sym, ◌∙◌}
use Rattle.klsm_lsm.proofs.MovingLemmas.{first_behind, two_set}
use Rattle.klsm_lsm.proofs.slots.move_to.Goals as goal

pub returns-clause-moved : goal.returns-clause-moved
returns-clause-moved g c =
    let split = c.split_at_mut-front.ensures in
    two_set g.R.Run.items _ _ _ c.args.from c.args.to _ _ _ _ split.value split.front_len c.requires.order (c.take_run.ensures.taken ∙ sym (first_behind g.R.Run.items _ _ _ _ _ split.value split.front_len c.requires.within)) c.take_run.ensures.emptied
