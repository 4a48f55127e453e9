use Rattle.klsm_parts.proofs.flushing.flush.Goals as goal

pub flush_prepared-requires : goal.flush_prepared-requires
flush_prepared-requires g c = (search, (search, (c.requires.capacity, (c.requires.full, (c.requires.apart, (c.requires.new_to_own, (c.requires.new_to_shared, tt)))))))
