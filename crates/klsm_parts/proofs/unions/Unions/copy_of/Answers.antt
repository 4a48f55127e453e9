use Rattle.klsm_parts.proofs.unions.Unions.copy_of.Goals as goal

pub copy_to_move-requires : goal.copy_to_move-requires
copy_to_move-requires g c = (search, c.requires.capacity)
