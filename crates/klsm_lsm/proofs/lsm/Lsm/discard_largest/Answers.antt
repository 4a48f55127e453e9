use Rattle.std.proofs.Common.{◌≡◌, ◌<◌, [], length, get_or, take, drop, ap, ◌∙◌, arith}
use Rattle.std.specs.List.{slice_get}
use Rattle.std.proofs.lemmas.Option.{get_or_from_slice_get}
use Rattle.std.proofs.lemmas.List.{length-map}
use Rattle.klsm_lsm.specs.Slots.{blocks_in}
use Rattle.klsm_lsm.proofs.StoredLemmas.{first_within, stored_rest, slots_back, view_back, count_blocks}
use Rattle.klsm_lsm.proofs.lsm.Lsm.discard_largest.Goals as goal

pub overflow_sub-self : goal.overflow_sub-self
overflow_sub-self g c =
    let bs = take c.self.inside.count (blocks_in g.R.Run.items c.self.inside.slots.items) in
    let some : 0 < length bs = rw c.self.view_is c.requires in
    let first : get_or bs 0 [] ≡ g.R.Run.items c.block.result.now = get_or_from_slice_get bs 0 _ [] (ap (λ l. slice_get l 0) c.self.view_is ∙ c.block.ensures.block) in
    omega (arith, c.len.ensures.len, ap length first, first_within _ _ _ bs c.self.invariant.stored some)

pub invariant_of-self : goal.invariant_of-self
invariant_of-self g c =
    let bs = take c.self.inside.count (blocks_in g.R.Run.items c.self.inside.slots.items) in
    let some : 0 < length bs = rw c.self.view_is c.requires in
    let first : get_or bs 0 [] ≡ g.R.Run.items c.block.result.now = get_or_from_slice_get bs 0 _ [] (ap (λ l. slice_get l 0) c.self.view_is ∙ c.block.ensures.block) in
    slots_back g.R.Run.items _ _ _ _ c.self.inside.slots.items c.close_gap.new.slots (drop 1 bs) (c.close_gap.ensures.len ∙ ap length c.as_mut_slice.ensures.value)
    (omega (arith, rw length-map at c.self.invariant.within)) (rw c.as_mut_slice.ensures.value at c.close_gap.ensures.moved) (rw (c.len.ensures.len, ← first) (stored_rest _ _ _ bs c.self.invariant.stored some))

pub close_gap-requires-clause-at : goal.close_gap-requires-clause-at
close_gap-requires-clause-at g c = omega (arith, count_blocks c.self.invariant, ap length c.self.view_is, c.requires)

pub close_gap-requires-clause-within : goal.close_gap-requires-clause-within
close_gap-requires-clause-within g c = rw c.as_mut_slice.ensures.value (rw length-map at c.self.invariant.within)

pub overflow_sub-self-2 : goal.overflow_sub-self-2
overflow_sub-self-2 g c = omega (arith, count_blocks c.self.invariant, ap length c.self.view_is, c.requires)

pub returns : goal.returns
returns g c =
    let bs = take c.self.inside.count (blocks_in g.R.Run.items c.self.inside.slots.items) in
    view_back g.R.Run.items _ c.self.inside.slots.items c.close_gap.new.slots (drop 1 bs) (c.close_gap.ensures.len ∙ ap length c.as_mut_slice.ensures.value) (rw c.as_mut_slice.ensures.value at c.close_gap.ensures.moved) ∙ ap (drop 1) c.self.view_is
