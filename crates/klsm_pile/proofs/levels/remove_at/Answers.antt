use Rattle.std.proofs.Common.{arith, length, sym, subst}
use Rattle.klsm_pile.specs.Counting.{AreCounts}
use Rattle.klsm_pile.specs.Front.{parts}
use Rattle.klsm_pile.proofs.RemoveLemmas.{is_out, counts_less, lower_numbered, left_fits, removed_held_at, fewer_items, item_at}
use Rattle.klsm_pile.proofs.levels.remove_at.Goals as goal

pub take_from-requires-clause-level : goal.take_from-requires-clause-level
take_from-requires-clause-level g c =
    let o = is_out (length c.args.counts.now) c.args.rank _ _ c.args.pieces.now.items c.args.counts.now c.remove-level.result c.requires.held c.requires.rank c.remove-level.ensures.value c.remove-level.ensures.items in
    o.level

pub take_from-requires-clause-count : goal.take_from-requires-clause-count
take_from-requires-clause-count g c =
    let o = is_out (length c.args.counts.now) c.args.rank _ _ c.args.pieces.now.items c.args.counts.now c.remove-level.result c.requires.held c.requires.rank c.remove-level.ensures.value c.remove-level.ensures.items in
    omega (arith, c.requires.held.counted c.remove-level.result.level (omega (arith, o.level)), o.out.within)

pub settle-requires-clause-level : goal.settle-requires-clause-level
settle-requires-clause-level g c =
    let o = is_out (length c.args.counts.now) c.args.rank _ _ c.args.pieces.now.items c.args.counts.now c.remove-level.result c.requires.held c.requires.rank c.remove-level.ensures.value c.remove-level.ensures.items in
    omega (arith, o.level, c.take_from.auto.counts)

pub settle-requires-clause-lower : goal.settle-requires-clause-lower
settle-requires-clause-lower g c =
    let o = is_out (length c.args.counts.now) c.args.rank _ _ c.args.pieces.now.items c.args.counts.now c.remove-level.result c.requires.held c.requires.rank c.remove-level.ensures.value c.remove-level.ensures.items in
    lower_numbered c.remove-level.result.level o.from 1 _ _ c.requires.held.numbered o.out

pub settle-requires-clause-fits : goal.settle-requires-clause-fits
settle-requires-clause-fits g c =
    let o = is_out (length c.args.counts.now) c.args.rank _ _ c.args.pieces.now.items c.args.counts.now c.remove-level.result c.requires.held c.requires.rank c.remove-level.ensures.value c.remove-level.ensures.items in
    left_fits c.remove-level.result.level o.from 1 _ _ c.requires.held.numbered o.out

pub settle-requires-clause-counted : goal.settle-requires-clause-counted
settle-requires-clause-counted g c =
    let o = is_out (length c.args.counts.now) c.args.rank _ _ c.args.pieces.now.items c.args.counts.now c.remove-level.result c.requires.held c.requires.rank c.remove-level.ensures.value c.remove-level.ensures.items in
    subst (λ cs. AreCounts cs (parts c.remove-level.new.self.items c.args.pieces.now.items)) (sym c.take_from.ensures)
    (counts_less c.remove-level.result.level o.from c.args.counts.now _ _ (omega (arith, o.level)) c.requires.held.counted o.out)

pub settle-requires-clause-few : goal.settle-requires-clause-few
settle-requires-clause-few g c =
    omega (arith, fewer_items c.args.front.now.items c.remove-level.new.self.items c.args.pieces.now.items (omega (arith, c.remove-level.ensures.len)), c.requires.few)

pub returns-clause-held : goal.returns-clause-held
returns-clause-held g c =
    let o = is_out (length c.args.counts.now) c.args.rank _ _ c.args.pieces.now.items c.args.counts.now c.remove-level.result c.requires.held c.requires.rank c.remove-level.ensures.value c.remove-level.ensures.items in
    (removed_held_at (length c.args.counts.now) _ _ _ _ _ _ c.args.counts.now _ c.remove-level.result c.requires.held o c.settle.ensures.settled c.take_from.auto.counts c.settle.ensures.same c.settle.ensures.counted).0

pub returns-clause-item : goal.returns-clause-item
returns-clause-item g c =
    item_at _ _ c.remove-level.result c.requires.rank c.remove-level.ensures.value

pub returns-clause-cut : goal.returns-clause-cut
returns-clause-cut g c =
    let o = is_out (length c.args.counts.now) c.args.rank _ _ c.args.pieces.now.items c.args.counts.now c.remove-level.result c.requires.held c.requires.rank c.remove-level.ensures.value c.remove-level.ensures.items in
    (removed_held_at (length c.args.counts.now) _ _ _ _ _ _ c.args.counts.now _ c.remove-level.result c.requires.held o c.settle.ensures.settled c.take_from.auto.counts c.settle.ensures.same c.settle.ensures.counted).1
