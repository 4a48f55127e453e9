use Rattle.klsm_run.proofs.heap_run.HeapRunRun.unite.Goals as goal

pub unite_items-requires-clause-ascending : goal.unite_items-requires-clause-ascending
unite_items-requires-clause-ascending g c = rw c.as_slice.ensures.items c.as_slice.ensures.ascending

pub unite_items-requires-clause-apart : goal.unite_items-requires-clause-apart
unite_items-requires-clause-apart g c = rw c.as_slice.ensures.items c.requires.apart

pub unite_items-requires-clause-room : goal.unite_items-requires-clause-room
unite_items-requires-clause-room g c = rw c.as_slice.ensures.items c.requires.room

pub returns-clause-union : goal.returns-clause-union
returns-clause-union g c = rw c.as_slice.ensures.items at c.unite_items.ensures.union
