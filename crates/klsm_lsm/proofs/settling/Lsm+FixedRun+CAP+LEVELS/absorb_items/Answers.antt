use Rattle.std.proofs.Common.{◌≡◌, ◌+◌, ◌-◌, ◌≤◌, length, take, drop, sym, ap, subst, ◌∙◌, arith, refl}
use Rattle.std.proofs.lemmas.List.{length-map}
use Rattle.klsm_lsm.specs.Level.{level}
use Rattle.klsm_lsm.specs.Limit.{limit_of}
use Rattle.klsm_lsm.specs.Slots.{blocks_in}
use Rattle.klsm_lsm.proofs.FitLemmas.{store_fits}
use Rattle.klsm_lsm.proofs.InsertLemmas.{free_level}
use Rattle.klsm_lsm.proofs.JoinLemmas.{AllBelow}
use Rattle.klsm_lsm.proofs.LevelLemmas.{level_is}
use Rattle.klsm_lsm.proofs.LimitLemmas.{stored_add}
use Rattle.klsm_lsm.proofs.MovingLemmas.{AreParts, placed, can_carry_at, settled}
use Rattle.klsm_lsm.proofs.PlaceLemmas.{AllFrom}
use Rattle.klsm_lsm.proofs.StoredLemmas.{count_blocks, slots_back, view_back, shown}
use Rattle.klsm_lsm.proofs.settling.Lsm+FixedRun+CAP+LEVELS.absorb_items.Goals as goal

pub put_at-requires : goal.put_at-requires
put_at-requires g c =
    let now = c.args.self.now in let b = c.args.items.now in
    let fits : c.self.inside.len + length b ≤ limit_of g.row.LEVELS g.row.CAP = omega (arith, c.if-items-limit.false, c.limit.ensures, c.self.invariant.stored.within.in_limit, c.self.invariant.stored.counted) in
    let size : length now ≡ c.self.inside.count = sym (ap length c.self.view_is) ∙ count_blocks c.self.invariant in
    let place = c.place_of_level-place.result in
    let order : place ≤ c.self.inside.count = omega (arith, size, c.place_of_level-place.ensures.within) in
    (search store_fits, (search, (c.requires.capacity, (order, (rw length-map at c.self.invariant.within, (free_level _ _ _ _ _ c.self.invariant (omega (arith, fits, c.requires.some)), (c.requires.ascending, omega (arith, fits))))))))

pub carry-last-requires : goal.carry-last-requires
carry-last-requires g c =
    let now = c.args.self.now in let b = c.args.items.now in
    let fits : c.self.inside.len + length b ≤ limit_of g.row.LEVELS g.row.CAP = omega (arith, c.if-items-limit.false, c.limit.ensures, c.self.invariant.stored.within.in_limit, c.self.invariant.stored.counted) in
    let size : length now ≡ c.self.inside.count = sym (ap length c.self.view_is) ∙ count_blocks c.self.invariant in
    let place = c.place_of_level-place.result in
    let order : place ≤ c.self.inside.count = omega (arith, size, c.place_of_level-place.ensures.within) in
    let is : c.level_of.result ≡ level b = level_is (length b) c.level_of.result c.level_of.ensures.enough c.level_of.ensures.least in
    let above : AllFrom (level b) (take place now) = subst (λ l. AllFrom l (take place now)) is c.place_of_level-place.ensures.above in
    let below : AllBelow (level b) (drop place now) = subst (λ l. AllBelow l (drop place now)) is c.place_of_level-place.ensures.below in
    let once = blocks_in (λ run. run) c.put_at.new.slots.items in
    let parts : AreParts once (take place now) (drop place now) b place (c.self.inside.count - place) = placed c.self.inside.count place (blocks_in (λ run. run) c.self.inside.slots.items) now once b c.self.view_is size order c.put_at.ensures.blocks in
    let lsm = (shown now c.self.invariant c.self.view_is).within.lawful in
    let can = can_carry_at g.row.CAP place (c.self.inside.count - place) now once b parts lsm c.requires.some c.requires.apart (omega (arith, fits, (shown now c.self.invariant c.self.view_is).counted)) above in
    rw c.as_mut_slice-slots.ensures.value (search, (omega (arith, order, c.put_at.ensures.within), (can.lawful, (can.some, (can.apart, (can.fits, can.above))))))

pub close_up-requires : goal.close_up-requires
close_up-requires g c =
    let now = c.args.self.now in let b = c.args.items.now in
    let fits : c.self.inside.len + length b ≤ limit_of g.row.LEVELS g.row.CAP = omega (arith, c.if-items-limit.false, c.limit.ensures, c.self.invariant.stored.within.in_limit, c.self.invariant.stored.counted) in
    let size : length now ≡ c.self.inside.count = sym (ap length c.self.view_is) ∙ count_blocks c.self.invariant in
    let place = c.place_of_level-place.result in
    let order : place ≤ c.self.inside.count = omega (arith, size, c.place_of_level-place.ensures.within) in
    record {
      order = omega (arith, c.carry-last.ensures.within);
      within = omega (arith, order, c.carry-last.ensures.len, ap length c.as_mut_slice-slots.ensures.value, c.put_at.ensures.within);
    }

pub invariant_of-self : goal.invariant_of-self
invariant_of-self g c =
    let now = c.args.self.now in let b = c.args.items.now in
    let fits : c.self.inside.len + length b ≤ limit_of g.row.LEVELS g.row.CAP = omega (arith, c.if-items-limit.false, c.limit.ensures, c.self.invariant.stored.within.in_limit, c.self.invariant.stored.counted) in
    let size : length now ≡ c.self.inside.count = sym (ap length c.self.view_is) ∙ count_blocks c.self.invariant in
    let place = c.place_of_level-place.result in
    let order : place ≤ c.self.inside.count = omega (arith, size, c.place_of_level-place.ensures.within) in
    let is : c.level_of.result ≡ level b = level_is (length b) c.level_of.result c.level_of.ensures.enough c.level_of.ensures.least in
    let above : AllFrom (level b) (take place now) = subst (λ l. AllFrom l (take place now)) is c.place_of_level-place.ensures.above in
    let below : AllBelow (level b) (drop place now) = subst (λ l. AllBelow l (drop place now)) is c.place_of_level-place.ensures.below in
    let once = blocks_in (λ run. run) c.put_at.new.slots.items in
    let parts : AreParts once (take place now) (drop place now) b place (c.self.inside.count - place) = placed c.self.inside.count place (blocks_in (λ run. run) c.self.inside.slots.items) now once b c.self.view_is size order c.put_at.ensures.blocks in
    let value = c.as_mut_slice-slots.ensures.value in
    let lesser = c.self.inside.count - place in
    let added = settled place lesser c.carry-last.result now once (blocks_in (λ run. run) c.carry-last.new.slots) (blocks_in (λ run. run) c.close_up.new.slots) b parts above below (rw value at c.carry-last.ensures.added) (rw value at c.carry-last.ensures.rest) c.close_up.ensures.moved in
    let len : length c.close_up.new.slots ≡ length c.put_at.new.slots.items = c.close_up.ensures.len ∙ (c.carry-last.ensures.len ∙ ap length value) in
    slots_back (λ run. run) _ _ _ _ c.put_at.new.slots.items c.close_up.new.slots _ len (omega (arith, c.carry-last.ensures.within, c.put_at.ensures.within, order)) added
    (stored_add _ _ _ now b (shown now c.self.invariant c.self.view_is) c.requires.ascending c.requires.some c.requires.apart (omega (arith, fits, (shown now c.self.invariant c.self.view_is).counted)))

pub returns-clause-added : goal.returns-clause-added
returns-clause-added g c =
    let now = c.args.self.now in let b = c.args.items.now in
    let fits : c.self.inside.len + length b ≤ limit_of g.row.LEVELS g.row.CAP = omega (arith, c.if-items-limit.false, c.limit.ensures, c.self.invariant.stored.within.in_limit, c.self.invariant.stored.counted) in
    let size : length now ≡ c.self.inside.count = sym (ap length c.self.view_is) ∙ count_blocks c.self.invariant in
    let place = c.place_of_level-place.result in
    let order : place ≤ c.self.inside.count = omega (arith, size, c.place_of_level-place.ensures.within) in
    let is : c.level_of.result ≡ level b = level_is (length b) c.level_of.result c.level_of.ensures.enough c.level_of.ensures.least in
    let above : AllFrom (level b) (take place now) = subst (λ l. AllFrom l (take place now)) is c.place_of_level-place.ensures.above in
    let below : AllBelow (level b) (drop place now) = subst (λ l. AllBelow l (drop place now)) is c.place_of_level-place.ensures.below in
    let once = blocks_in (λ run. run) c.put_at.new.slots.items in
    let parts : AreParts once (take place now) (drop place now) b place (c.self.inside.count - place) = placed c.self.inside.count place (blocks_in (λ run. run) c.self.inside.slots.items) now once b c.self.view_is size order c.put_at.ensures.blocks in
    let value = c.as_mut_slice-slots.ensures.value in
    let lesser = c.self.inside.count - place in
    let added = settled place lesser c.carry-last.result now once (blocks_in (λ run. run) c.carry-last.new.slots) (blocks_in (λ run. run) c.close_up.new.slots) b parts above below (rw value at c.carry-last.ensures.added) (rw value at c.carry-last.ensures.rest) c.close_up.ensures.moved in
    let len : length c.close_up.new.slots ≡ length c.put_at.new.slots.items = c.close_up.ensures.len ∙ (c.carry-last.ensures.len ∙ ap length value) in
    view_back (λ run. run) _ c.put_at.new.slots.items c.close_up.new.slots _ len added

pub limit-requires : goal.limit-requires
limit-requires g c = search

pub as_mut_slice-slots-requires : goal.as_mut_slice-slots-requires
as_mut_slice-slots-requires g c = search store_fits

pub same-self : goal.same-self
same-self g c = refl
