use Rattle.std.proofs.Common.{◌+◌, ◌<◌, length, arith}
use Rattle.klsm_run.proofs.StoreLemmas.{fixed_span, place_in_store, item_in_store}
use Rattle.klsm_run.proofs.fixed_run.FixedRunRun.item_at.Goals as goal

pub overflow_add-result : goal.overflow_add-result
overflow_add-result g c =
    let place : c.self.inside.span.start + c.args.index < length c.self.inside.items.items = place_in_store _ _ (fixed_span c.self.invariant) c.self.view_is c.requires in
    omega (arith, place, c.self.invariant.full, c.self.invariant.capacity_in_range.at_most)

pub offset_bounds-as_slice-self-inside : goal.offset_bounds-as_slice-self-inside
offset_bounds-as_slice-self-inside g c =
    let place : c.self.inside.span.start + c.args.index < length c.self.inside.items.items = place_in_store _ _ (fixed_span c.self.invariant) c.self.view_is c.requires in
    omega (arith, place, c.self.invariant.full, c.self.invariant.capacity_in_range.at_most)

pub bounds-as_slice-self-inside : goal.bounds-as_slice-self-inside
bounds-as_slice-self-inside g c = rw c.as_slice.ensures.value (place_in_store _ _ (fixed_span c.self.invariant) c.self.view_is c.requires)

pub returns : goal.returns
returns g c = rw c.as_slice.ensures.value (item_in_store _ _ _ (fixed_span c.self.invariant) c.self.view_is c.requires)
