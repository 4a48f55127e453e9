use Rattle.std.proofs.Common.{rules}
use Rattle.klsm_lsm.proofs.StoredLemmas.{last_put}
use Rattle.klsm_lsm.proofs.fixed.put_last.Goals as goal

pub returns-clause-blocks : goal.returns-clause-blocks
returns-clause-blocks g c = last_put (λ run. run) c.args.count c.args.slots.now.items c.open_slot.new.slots.items c.as_mut_slice.result.now _ _ c.as_mut_slice.ensures.value c.open_slot.ensures.kept c.open_slot.ensures.within c.set_slot.ensures

pub open_slot-requires : goal.open_slot-requires
open_slot-requires g c = (search, (search, (c.requires.within, c.requires.levels)))

pub as_mut_slice-requires : goal.as_mut_slice-requires
as_mut_slice-requires g c = search

pub offset_bounds-as_mut_slice-count : goal.offset_bounds-as_mut_slice-count
offset_bounds-as_mut_slice-count g c = search rules

pub bounds-as_mut_slice-count : goal.bounds-as_mut_slice-count
bounds-as_mut_slice-count g c = rw c.as_mut_slice.ensures.value c.open_slot.ensures.within

pub set_slot-requires : goal.set_slot-requires
set_slot-requires g c = (search, (c.requires.capacity, (c.requires.ascending, c.requires.room)))
