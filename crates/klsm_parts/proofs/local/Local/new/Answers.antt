use Rattle.std.proofs.Common.{[], arith, refl}
use Rattle.klsm_parts.proofs.FitLemmas.{fixed_run_fits, own_lsm_fits}
use Rattle.klsm_parts.proofs.OwnLemmas.{none_found}
use Rattle.klsm_parts.proofs.local.Local.new.Goals as goal

pub new-requires-room-R-Run : goal.new-requires-room-R-Run
new-requires-room-R-Run g c κs = fixed_run_fits _ c.requires.capacity

pub new-requires : goal.new-requires
new-requires g c = (own_lsm_fits _ c.requires.capacity, record { some_level = omega arith; at_most = omega arith })

pub invariant_of-result : goal.invariant_of-result
invariant_of-result g c = rw c.new.ensures (record { few = omega arith; k_in_range = c.requires.k; capacity_in_range = c.requires.capacity; found_is = none_found [] })

pub returns : goal.returns
returns g c = rw c.new.ensures refl
