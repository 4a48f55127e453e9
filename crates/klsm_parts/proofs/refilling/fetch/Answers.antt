use Rattle.std.proofs.Common.{◌≡◌, ℕ, ◌+◌, ◌<◌, ◌≤◌, ◌∙◌, length, take, drop, sym, ap, subst, refl, arith}
use Rattle.std.proofs.lemmas.List.{length-take, length-take-le, take-append-le, take_all}
use Rattle.klsm_run.proofs.SortedLemmas.{length_sorted}
use Rattle.klsm_lsm.specs.Lsm.{content}
use Rattle.klsm_lsm.proofs.ContentLemmas.{ascending_content}
use Rattle.klsm_parts.specs.Parts.{items_in}
use Rattle.klsm_parts.specs.Events.{MayRefill, plus, shared_after_refill}
use Rattle.klsm_pile.specs.Leaving.{cut_least}
use Rattle.klsm_parts.proofs.RefillLemmas.{have_room, are_moved, may_refill, refill_leaves}
use Rattle.klsm_parts.proofs.refilling.fetch.Goals as goal

-- as many places are there as items may move
are_enough : (n held k places : ℕ) → held + n ≤ k → k ≤ places → n ≤ places
are_enough n held k places room enough = omega (arith, room, enough)

pub returns-then-count-eq0-clause-count : goal.returns-then-count-eq0-clause-count
returns-then-count-eq0-clause-count g c = sym c.if-count-eq0.true ∙ c.count_to_move-count.ensures.count

pub returns-then-count-eq0-clause-fetched : goal.returns-then-count-eq0-clause-fetched
returns-then-count-eq0-clause-fetched g c = ap (λ n. take n (items_in c.args.shared.now)) (sym c.if-count-eq0.true ∙ c.count_to_move-count.ensures.count)

pub move_least-requires : goal.move_least-requires
move_least-requires g c =
    let own = items_in c.args.own.now in let shared = items_in c.args.shared.now in
    let k = c.args.own.now.k in let n = c.count_to_move-count.result in
    let told = c.count_to_move-count.ensures in
    let all = have_room c.args.most k n own shared told.count told.few in
    let lent = length-take-le n c.args.places.now (are_enough _ _ _ _ all.room c.requires.enough) in
    (search, subst (λ i. i ≤ length shared) (sym lent) all.within)

pub slice_bounds-move_least-end-2 : goal.slice_bounds-move_least-end-2
slice_bounds-move_least-end-2 g c =
    let told = c.count_to_move-count.ensures in
    let all = have_room c.args.most c.args.own.now.k c.count_to_move-count.result (items_in c.args.own.now) (items_in c.args.shared.now) told.count told.few in
    sym (length-take-le c.count_to_move-count.result c.args.places.now (are_enough _ _ _ _ all.room c.requires.enough))

pub returns-clause-count : goal.returns-clause-count
returns-clause-count g c = c.count_to_move-count.ensures.count

pub returns-clause-within : goal.returns-clause-within
returns-clause-within g c =
    let told = c.count_to_move-count.ensures in
    let all = have_room c.args.most c.args.own.now.k c.count_to_move-count.result (items_in c.args.own.now) (items_in c.args.shared.now) told.count told.few in
    omega (arith, all.room)

pub returns-clause-fetched : goal.returns-clause-fetched
returns-clause-fetched g c =
    let own = items_in c.args.own.now in let shared = items_in c.args.shared.now in
    let n = c.count_to_move-count.result in let told = c.count_to_move-count.ensures in
    let all = have_room c.args.most c.args.own.now.k n own shared told.count told.few in
    let lent : length (take n c.args.places.now) ≡ n = omega (arith, length-take n c.args.places.now, are_enough _ _ _ _ all.room c.requires.enough) in
    let moved = are_moved n _ shared c.move_least.new.places (items_in c.move_least.new.shared) lent c.move_least.ensures.moved c.move_least.ensures.left in
    let size : length c.move_least.new.places ≡ n = omega (arith, ap length moved.run_is, length-take n shared, all.within) in
    take-append-le n c.move_least.new.places (drop n c.args.places.now) (omega (arith, size))
    ∙ (take_all n c.move_least.new.places (omega (arith, size)) ∙ (moved.run_is ∙ ap (λ i. take i shared) told.count))

pub returns-clause-event : goal.returns-clause-event
returns-clause-event g c some =
    let own = items_in c.args.own.now in let shared = items_in c.args.shared.now in
    let k = c.args.own.now.k in let n = c.count_to_move-count.result in
    let told = c.count_to_move-count.ensures in
    let all = have_room c.args.most k n own shared told.count told.few in
    let up = ascending_content c.args.shared.now.blocks told.lawful in
    let lent : length (take n c.args.places.now) ≡ n = omega (arith, length-take n c.args.places.now, are_enough _ _ _ _ all.room c.requires.enough) in
    let moved = are_moved n _ shared c.move_least.new.places (items_in c.move_least.new.shared) lent c.move_least.ensures.moved c.move_least.ensures.left in
    let bs = c.args.shared.now.blocks in
    let may = may_refill k n own (content bs) some (omega (arith, all.within, length_sorted (content bs))) all.room up in
    let leaves = refill_leaves n own (plus own c.move_least.new.places) (content bs) c.move_least.new.places (items_in c.move_least.new.shared) up moved refl in
    subst (λ m. MayRefill k own shared (take m shared) × (items_in c.move_least.new.shared ≡ shared_after_refill shared (take m shared))) told.count
    (may, leaves.1)

pub returns-clause-blocks : goal.returns-clause-blocks
returns-clause-blocks g c some at_once =
    let n = c.count_to_move-count.result in let told = c.count_to_move-count.ensures in
    let all = have_room c.args.most c.args.own.now.k n (items_in c.args.own.now) (items_in c.args.shared.now) told.count told.few in
    let lent : length (take n c.args.places.now) ≡ n = omega (arith, length-take n c.args.places.now, are_enough _ _ _ _ all.room c.requires.enough) in
    subst (λ i. 0 < i → i ≤ c.args.shared.now.k + 1 → c.move_least.new.shared.blocks ≡ cut_least i c.args.shared.now.blocks) lent c.move_least.ensures.blocks some at_once
