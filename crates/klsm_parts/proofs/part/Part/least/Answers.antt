use Rattle.klsm_parts.proofs.FitLemmas.{local_fits, shared_fits}
use Rattle.klsm_parts.proofs.part.Part.least.Goals as goal

pub least-requires : goal.least-requires
least-requires g c = local_fits _ c.requires.capacity

pub least-requires-in-Common : goal.least-requires-in-Common
least-requires-in-Common g c = shared_fits _ c.requires.levels

pub returns-in-Own : goal.returns-in-Own
returns-in-Own g c = rw c.in-Own.is c.least.ensures

pub returns-in-Common : goal.returns-in-Common
returns-in-Common g c = rw c.in-Common.is c.least-in-Common.ensures
