use Rattle.std.proofs.Common.{rules, ◌≡◌, ◌<◌, [], ◌∷◌, length, get_or, take, set, refl, sym, ap, ◌∙◌, subst, arith}
use Rattle.std.specs.List.{refill}
use Rattle.std.proofs.lemmas.List.{length-map, length-set}
use Rattle.klsm_lsm.specs.Slots.{block_in, blocks_in, IsSlotted}
use Rattle.klsm_lsm.proofs.InsertLemmas.{kept_stored}
use Rattle.klsm_lsm.proofs.RemovingLemmas.{block_in_place}
use Rattle.klsm_lsm.proofs.SlotLemmas.{block_in_slot, refill_same}
use Rattle.klsm_lsm.proofs.StoredLemmas.{count_blocks, last_put, slotted}
use Rattle.klsm_lsm.proofs.FitLemmas.{store_fits}
use Rattle.klsm_lsm.proofs.fixed.Lsm+FixedRun+CAP+LEVELS.keep_least.Goals as goal

pub invariant_of-self : goal.invariant_of-self
invariant_of-self g c =
    let slots = c.self.inside.slots.items in
    let value = c.as_mut_slice.ensures.value in
    let one : c.self.inside.count ≡ 1 = omega (arith, ap length c.self.view_is, count_blocks c.self.invariant, c.requires.only) in
    let some : 0 < length slots = omega (arith, one, rw length-map at c.self.invariant.within) in
    let here : block_in (λ run. run) (get_or slots 0 c.index-as_mut_slice-0.result) ≡ get_or c.args.self.now 0 [] =
    sym (block_in_slot (λ run. run) slots 0 c.index-as_mut_slice-0.result some) ∙ block_in_place c.args.self.now 0 c.self.invariant c.self.view_is (omega (arith, c.requires.only)) in
    let block : block_in (λ run. run) c.truncate_slot.new.slot ≡ take c.args.kept (get_or c.args.self.now 0 []) = (rw value at c.truncate_slot.ensures) ∙ ap (take c.args.kept) here in
    let left = last_put (λ run. run) 0 slots slots c.as_mut_slice.result.now c.truncate_slot.new.slot _ value refl some block in
    let back : refill (length slots) slots (set c.as_mut_slice.result.now 0 c.truncate_slot.new.slot) ≡ set slots 0 c.truncate_slot.new.slot =
    rw value (refill_same slots (set slots 0 c.truncate_slot.new.slot) (length-set slots 0 c.truncate_slot.new.slot)) in
    subst (λ n. IsSlotted g.row.LEVELS g.row.CAP c.args.kept n (blocks_in (λ run. run) (refill (length slots) slots (set c.as_mut_slice.result.now 0 c.truncate_slot.new.slot)))) (sym one)
    (slotted _ _ _ _ _ _ left (rw (length-map, back, length-set) some) (kept_stored _ _ _ _ _ _ _ c.self.invariant c.self.view_is c.requires.only c.requires.some c.requires.within))

pub as_mut_slice-requires : goal.as_mut_slice-requires
as_mut_slice-requires g c = search store_fits

pub offset_bounds-0 : goal.offset_bounds-0
offset_bounds-0 g c = search rules

pub bounds-as_mut_slice-0 : goal.bounds-as_mut_slice-0
bounds-as_mut_slice-0 g c =
    let slots = c.self.inside.slots.items in
    let value = c.as_mut_slice.ensures.value in
    let one : c.self.inside.count ≡ 1 = omega (arith, ap length c.self.view_is, count_blocks c.self.invariant, c.requires.only) in
    let some : 0 < length slots = omega (arith, one, rw length-map at c.self.invariant.within) in
    rw value some

pub truncate_slot-requires : goal.truncate_slot-requires
truncate_slot-requires g c =
    let slots = c.self.inside.slots.items in
    let value = c.as_mut_slice.ensures.value in
    let one : c.self.inside.count ≡ 1 = omega (arith, ap length c.self.view_is, count_blocks c.self.invariant, c.requires.only) in
    let some : 0 < length slots = omega (arith, one, rw length-map at c.self.invariant.within) in
    let here : block_in (λ run. run) (get_or slots 0 c.index-as_mut_slice-0.result) ≡ get_or c.args.self.now 0 [] =
    sym (block_in_slot (λ run. run) slots 0 c.index-as_mut_slice-0.result some) ∙ block_in_place c.args.self.now 0 c.self.invariant c.self.view_is (omega (arith, c.requires.only)) in
    (search, (c.requires.some, rw (value, here) c.requires.within))

pub returns : goal.returns
returns g c =
    let slots = c.self.inside.slots.items in
    let value = c.as_mut_slice.ensures.value in
    let one : c.self.inside.count ≡ 1 = omega (arith, ap length c.self.view_is, count_blocks c.self.invariant, c.requires.only) in
    let some : 0 < length slots = omega (arith, one, rw length-map at c.self.invariant.within) in
    let here : block_in (λ run. run) (get_or slots 0 c.index-as_mut_slice-0.result) ≡ get_or c.args.self.now 0 [] =
    sym (block_in_slot (λ run. run) slots 0 c.index-as_mut_slice-0.result some) ∙ block_in_place c.args.self.now 0 c.self.invariant c.self.view_is (omega (arith, c.requires.only)) in
    let block : block_in (λ run. run) c.truncate_slot.new.slot ≡ take c.args.kept (get_or c.args.self.now 0 []) = (rw value at c.truncate_slot.ensures) ∙ ap (take c.args.kept) here in
    let left = last_put (λ run. run) 0 slots slots c.as_mut_slice.result.now c.truncate_slot.new.slot _ value refl some block in
    subst (λ n. take n (blocks_in (λ run. run) (refill (length slots) slots (set c.as_mut_slice.result.now 0 c.truncate_slot.new.slot))) ≡ take c.args.kept (get_or c.args.self.now 0 []) ∷ []) (sym one) left
