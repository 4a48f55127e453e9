use Rattle.klsm_parts.specs.EitherPart.{state_of}
use Rattle.klsm_parts.proofs.EmptyLemmas.{none_in}
use Rattle.klsm_parts.proofs.part.Part.is_empty.Goals as goal

pub returns : goal.returns
returns g c = none_in (state_of c.args.self.now) c.len.result c.len.ensures.len

pub len-requires : goal.len-requires
len-requires g c = (search, (c.requires.capacity, c.requires.levels))
