use Rattle.std.proofs.Common.{sym, ◌∙◌, arith, length, ap}
use Rattle.std.specs.List.{take-map}
use Rattle.std.proofs.lemmas.List.{length-take, length-map}
use Rattle.klsm_lsm.specs.Slots.{block_in}
use Rattle.klsm_lsm.proofs.StoredLemmas.{shown}
use Rattle.klsm_lsm.proofs.lsm.Lsm.filled.Goals as goal

pub returns-clause-blocks : goal.returns-clause-blocks
returns-clause-blocks g c = rw c.as_slice.ensures.value (sym (take-map (block_in g.R.Run.items) _ _) ∙ c.self.view_is)

pub slice_bounds-result-end : goal.slice_bounds-result-end
slice_bounds-result-end g c = omega (arith, length-take c.self.inside.count c.as_slice.result.now, ap length c.as_slice.ensures.value, rw length-map at c.self.invariant.within)

pub returns-clause-lawful : goal.returns-clause-lawful
returns-clause-lawful g c = (shown c.args.self.now c.self.invariant c.self.view_is).within.lawful
