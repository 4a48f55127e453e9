use Rattle.klsm_parts.proofs.sharing.share.Goals as goal

pub share_prepared-requires : goal.share_prepared-requires
share_prepared-requires g c = (search, (search, (c.requires.capacity, (c.requires.apart, tt))))
