use Rattle.klsm_run.proofs.ApartLemmas.{ascending_sorted, apart_if_sharing_none}
use Rattle.klsm_pile.proofs.body.merged.Goals as goal

pub append_least-requires-clause-ascending : goal.append_least-requires-clause-ascending
append_least-requires-clause-ascending g c =
    rw (c.in-Ok.ensures.empty, c.as_slice.ensures.items, c.as_slice-2.ensures.items)
    (ascending_sorted c.args.left.now c.args.right.now c.as_slice.ensures.ascending c.as_slice-2.ensures.ascending (apart_if_sharing_none _ _ c.requires.apart))
