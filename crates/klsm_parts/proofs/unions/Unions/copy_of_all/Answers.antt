use Rattle.klsm_parts.proofs.unions.Unions.copy_of_all.Goals as goal

pub copy_to_share-requires : goal.copy_to_share-requires
copy_to_share-requires g c = (search, c.requires.capacity)
