use Rattle.std.proofs.Common.{◌<◌, length, ap, ◌∙◌, arith, refl}
use Rattle.std.proofs.lemmas.List.{length-map}
use Rattle.klsm_lsm.specs.Limit.{limit_of}
use Rattle.klsm_lsm.specs.Slots.{blocks_in}
use Rattle.klsm_lsm.proofs.InsertLemmas.{free_level, can_carry, insert_stored, inserted}
use Rattle.klsm_lsm.proofs.StoredLemmas.{slots_back, view_back, few_blocks, shown}
use Rattle.klsm_lsm.proofs.FitLemmas.{store_fits}
use Rattle.klsm_lsm.proofs.fixed.Lsm+FixedRun+CAP+LEVELS.insert.Goals as goal

pub put_last-requires : goal.put_last-requires
put_last-requires g c =
    let less : c.self.inside.len < limit_of g.row.LEVELS g.row.CAP = omega (arith, c.if-self-limit.false, c.limit.ensures) in
    (search store_fits, (search, (c.requires.capacity, (rw length-map at c.self.invariant.within, (free_level _ _ _ _ _ c.self.invariant less, ((tt, tt), c.requires.capacity.some_room))))))

pub carry-requires : goal.carry-requires
carry-requires g c =
    let less : c.self.inside.len < limit_of g.row.LEVELS g.row.CAP = omega (arith, c.if-self-limit.false, c.limit.ensures) in
    let can = can_carry _ _ _ _ _ (blocks_in (λ run. run) c.put_last.new.slots.items) _ _ c.self.invariant c.self.view_is less c.requires.new c.put_last.ensures.blocks in
    rw c.as_mut_slice.ensures.value (search, (c.put_last.ensures.within, (can.lawful, (can.some, (can.apart, (can.fits, can.above))))))

pub invariant_of-self : goal.invariant_of-self
invariant_of-self g c =
    let less : c.self.inside.len < limit_of g.row.LEVELS g.row.CAP = omega (arith, c.if-self-limit.false, c.limit.ensures) in
    let added = inserted _ _ _ _ _ _ (blocks_in (λ run. run) c.put_last.new.slots.items) (blocks_in (λ run. run) c.carry.new.slots) _ _ c.self.invariant c.self.view_is c.put_last.ensures.blocks (rw c.as_mut_slice.ensures.value at c.carry.ensures.added) in
    slots_back (λ run. run) _ _ _ _ c.put_last.new.slots.items c.carry.new.slots _ (c.carry.ensures.len ∙ ap length c.as_mut_slice.ensures.value) (omega (arith, c.carry.ensures.within, c.put_last.ensures.within)) added
    (insert_stored _ _ _ _ _ _ _ c.self.invariant c.self.view_is less c.requires.new)

pub returns-clause-added : goal.returns-clause-added
returns-clause-added g c =
    let added = inserted _ _ _ _ _ _ (blocks_in (λ run. run) c.put_last.new.slots.items) (blocks_in (λ run. run) c.carry.new.slots) _ _ c.self.invariant c.self.view_is c.put_last.ensures.blocks (rw c.as_mut_slice.ensures.value at c.carry.ensures.added) in
    view_back (λ run. run) _ c.put_last.new.slots.items c.carry.new.slots _ (c.carry.ensures.len ∙ ap length c.as_mut_slice.ensures.value) added

pub limit-requires : goal.limit-requires
limit-requires g c = search

pub same-self : goal.same-self
same-self g c = refl

pub returns-then-self-limit-clause-added : goal.returns-then-self-limit-clause-added
returns-then-self-limit-clause-added g c = tt

pub returns-then-self-limit-clause-room : goal.returns-then-self-limit-clause-room
returns-then-self-limit-clause-room g c =
    let stored = shown c.args.self.now c.self.invariant c.self.view_is in
    (λ bad. cc, λ less. absurd (omega (arith, less, c.if-self-limit.true, c.limit.ensures, stored.counted)))

pub returns-then-self-limit-clause-full : goal.returns-then-self-limit-clause-full
returns-then-self-limit-clause-full g c = refl

pub returns-then-self-limit-clause-unchanged : goal.returns-then-self-limit-clause-unchanged
returns-then-self-limit-clause-unchanged g c = refl

pub slice_bounds-put_last-end : goal.slice_bounds-put_last-end
slice_bounds-put_last-end g c = refl

pub as_mut_slice-requires : goal.as_mut_slice-requires
as_mut_slice-requires g c = search store_fits

pub overflow_add-self : goal.overflow_add-self
overflow_add-self g c = omega (arith, c.carry.ensures.within, few_blocks c.self.invariant, c.self.invariant.stored.within.levels_in_range.at_most)

pub overflow_add-self-2 : goal.overflow_add-self-2
overflow_add-self-2 g c = omega (arith, c.if-self-limit.false)

pub returns-clause-room : goal.returns-clause-room
returns-clause-room g c =
    let stored = shown c.args.self.now c.self.invariant c.self.view_is in
    (λ same. omega (arith, c.if-self-limit.false, c.limit.ensures, stored.counted), λ less. refl)

pub returns-clause-full : goal.returns-clause-full
returns-clause-full g c = tt

pub returns-clause-unchanged : goal.returns-clause-unchanged
returns-clause-unchanged g c = tt

pub limit-requires-room-R-Run : goal.limit-requires-room-R-Run
limit-requires-room-R-Run g c κs = search
