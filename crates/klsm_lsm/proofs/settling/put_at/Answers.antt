use Rattle.klsm_lsm.proofs.MovingLemmas.{put_in}
use Rattle.klsm_lsm.proofs.settling.put_at.Goals as goal

pub open_slot-requires : goal.open_slot-requires
open_slot-requires g c = (search, (search, (c.requires.within, c.requires.levels)))

pub as_mut_slice-runs-requires : goal.as_mut_slice-runs-requires
as_mut_slice-runs-requires g c = search

pub open_up-requires : goal.open_up-requires
open_up-requires g c = record { order = c.requires.order; within = rw c.as_mut_slice-runs.ensures.value c.open_slot.ensures.within }

pub returns-clause-blocks : goal.returns-clause-blocks
returns-clause-blocks g c =
    put_in (λ run. run) c.args.count c.args.place c.args.slots.now.items c.open_slot.new.slots.items c.as_mut_slice-runs.result.now c.open_up.new.slots c.set_slot.new.slot c.args.items.now
    c.requires.order c.as_mut_slice-runs.ensures.value c.open_slot.ensures.kept c.open_slot.ensures.within c.open_up.ensures.len c.open_up.ensures.front c.open_up.ensures.moved c.set_slot.ensures
