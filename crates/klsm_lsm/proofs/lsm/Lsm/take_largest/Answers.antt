use Rattle.std.proofs.Common.{◌<◌, [], length, take, drop, Some, sym, ap, ◌∙◌, arith, rules, List, refl, ◌≡◌}
use Rattle.std.specs.Option.{option_map}
use Rattle.std.specs.List.{slice_get}
use Rattle.std.proofs.lemmas.List.{length-map}
use Rattle.std.proofs.lemmas.Option.{slice_get-get_or}
use Rattle.klsm_run.specs.declared.item.Item.{Item}
use Rattle.klsm_lsm.specs.Slots.{block_in, blocks_in}
use Rattle.klsm_lsm.proofs.StoredLemmas.{first_slot, count_blocks}
use Rattle.klsm_lsm.proofs.lsm.Lsm.take_largest.Goals as goal

pub unreachable-requires : goal.unreachable-requires
unreachable-requires g c =
    let first = first_slot g.R.Run.items c.self.inside.slots.items c.remove-largest.result c.self.invariant (omega (arith, c.if-self-eq0.false)) c.remove-largest.ensures.value in
    omega (arith, rw c.in_default.is at first.some)

pub overflow_sub-self : goal.overflow_sub-self
overflow_sub-self g c =
    let first = first_slot g.R.Run.items c.self.inside.slots.items c.remove-largest.result c.self.invariant (omega (arith, c.if-self-eq0.false)) c.remove-largest.ensures.value in
    omega (arith, c.len.ensures.len, ap (λ o. length (block_in g.R.Run.items o)) c.in-Some.is, first.within)

pub invariant_of-self : goal.invariant_of-self
invariant_of-self g c =
    let first = first_slot g.R.Run.items c.self.inside.slots.items c.remove-largest.result c.self.invariant (omega (arith, c.if-self-eq0.false)) c.remove-largest.ensures.value in
    rw (c.remove-largest.ensures.items, c.len.ensures.len) (rw c.in-Some.is at first.gone)

pub returns-clause-block : goal.returns-clause-block
returns-clause-block g c =
    let first = first_slot g.R.Run.items c.self.inside.slots.items c.remove-largest.result c.self.invariant (omega (arith, c.if-self-eq0.false)) c.remove-largest.ensures.value in
    let bs = take c.self.inside.count (blocks_in g.R.Run.items c.self.inside.slots.items) in
    let some : 0 < length bs = omega (arith, count_blocks c.self.invariant, c.if-self-eq0.false) in
    ap (option_map g.R.Run.items) c.in-Some.is ∙ (ap Some (sym (first.block_is ∙ ap (block_in g.R.Run.items) c.in-Some.is)) ∙ (sym (slice_get-get_or bs 0 [] some) ∙ ap (λ l. slice_get l 0) c.self.view_is))

pub returns-clause-rest : goal.returns-clause-rest
returns-clause-rest g c =
    let first = first_slot g.R.Run.items c.self.inside.slots.items c.remove-largest.result c.self.invariant (omega (arith, c.if-self-eq0.false)) c.remove-largest.ensures.value in
    rw c.remove-largest.ensures.items (first.rest ∙ ap (drop 1) c.self.view_is)

pub same-self : goal.same-self
same-self g c = refl

pub returns-then-self-eq0-clause-block : goal.returns-then-self-eq0-clause-block
returns-then-self-eq0-clause-block g c =
    let empty : [] ≡ c.args.self.now = ap (λ n. take n (blocks_in g.R.Run.items c.self.inside.slots.items)) (sym c.if-self-eq0.true) ∙ c.self.view_is in
    ap (λ (bs : List (List Item)). slice_get bs 0) empty

pub returns-then-self-eq0-clause-rest : goal.returns-then-self-eq0-clause-rest
returns-then-self-eq0-clause-rest g c =
    let empty : [] ≡ c.args.self.now = ap (λ n. take n (blocks_in g.R.Run.items c.self.inside.slots.items)) (sym c.if-self-eq0.true) ∙ c.self.view_is in
    sym empty ∙ ap (drop 1) empty

pub overflow_sub-self-2 : goal.overflow_sub-self-2
overflow_sub-self-2 g c = omega (arith, c.if-self-eq0.false)

pub remove-largest-requires : goal.remove-largest-requires
remove-largest-requires g c = (search rules, omega (arith, c.if-self-eq0.false, rw length-map at c.self.invariant.within))

pub unreachable-unreachable : goal.unreachable-unreachable
unreachable-unreachable g c = c.unreachable.result
