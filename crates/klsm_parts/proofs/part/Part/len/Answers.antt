use Rattle.klsm_parts.proofs.FitLemmas.{local_fits, shared_fits}
use Rattle.klsm_parts.proofs.part.Part.len.Goals as goal

pub len-requires : goal.len-requires
len-requires g c = local_fits _ c.requires.capacity

pub len-requires-in-Common : goal.len-requires-in-Common
len-requires-in-Common g c = shared_fits _ c.requires.levels

pub returns-in-Own-clause-len : goal.returns-in-Own-clause-len
returns-in-Own-clause-len g c = rw c.in-Own.is c.len.ensures.len

pub returns-in-Own-clause-room : goal.returns-in-Own-clause-room
returns-in-Own-clause-room g c = rw c.in-Own.is c.len.ensures.few

pub returns-in-Own-clause-lawful : goal.returns-in-Own-clause-lawful
returns-in-Own-clause-lawful g c = rw c.in-Own.is c.len.ensures.lawful

pub returns-in-Common-clause-len : goal.returns-in-Common-clause-len
returns-in-Common-clause-len g c = rw c.in-Common.is c.len-in-Common.ensures.len

pub returns-in-Common-clause-room : goal.returns-in-Common-clause-room
returns-in-Common-clause-room g c = rw c.in-Common.is c.len-in-Common.ensures.limit

pub returns-in-Common-clause-lawful : goal.returns-in-Common-clause-lawful
returns-in-Common-clause-lawful g c = rw c.in-Common.is c.len-in-Common.ensures.lawful
