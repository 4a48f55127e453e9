use Rattle.std.proofs.Common.{◌+◌, ◌<◌, length, sym, ◌∙◌, arith}
use Rattle.klsm_lsm.proofs.MovingLemmas.{in_front, two_set}
use Rattle.klsm_lsm.proofs.slots.move_on.Goals as goal

pub returns-clause-moved : goal.returns-clause-moved
returns-clause-moved g c =
    let split = c.split_at_mut-front.ensures in
    let inside : c.args.at < length c.split_at_mut-front.result.0.now = omega (arith, split.front_len) in
    two_set g.R.Run.items _ _ _ (c.args.at + 1) c.args.at _ _ _ _ split.value split.front_len (omega arith) c.take_run.ensures.emptied (c.take_run.ensures.taken ∙ sym (in_front g.R.Run.items _ _ _ c.args.at _ split.value inside))
