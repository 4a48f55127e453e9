use Rattle.std.proofs.Common.{◌+◌, ◌-◌, [], ◌∷◌, ◌++◌, length, take, refl, ap, ◌∙◌, subst, arith, slice_set, slice_index_or}
use Rattle.klsm_pile.specs.Piece.{PieceState}
use Rattle.klsm_pile.specs.Merging.{IsMerged}
use Rattle.klsm_pile.proofs.PutLemmas.{IsPut, landing_at, put_held, put_room, low_ascending, low_apart, merged_length}
use Rattle.klsm_pile.proofs.absorbing.put.Goals as goal
use Rattle.klsm_pile.proofs.absorbing.put.Goals.{In-Ok}
use Rattle.klsm_pile.proofs.absorbing.put.Given as given

pub landing-to-requires : goal.landing-to-requires
landing-to-requires g c =
    omega (arith, c.level_for-from.ensures.least (length c.args.counts.now - 1) (omega (arith, c.requires.limit)))

pub regroup-requires-clause-fits : goal.regroup-requires-clause-fits
regroup-requires-clause-fits g c =
    (landing_at (length c.args.counts.now) c.level_for-from.result c.landing-to.result c.args.counts.now _ c.args.run refl c.requires.levels c.requires.held.numbered c.requires.held.counted c.level_for-from.ensures.block c.requires.limit
    c.landing-to.ensures.order c.landing-to.ensures.taken c.landing-to.ensures.free c.landing-to.ensures.within).less

pub add_to-requires-clause-level : goal.add_to-requires-clause-level
add_to-requires-clause-level g c =
    omega (
      arith,
      c.regroup.ensures.len,
      (landing_at (length c.args.counts.now) c.level_for-from.result c.landing-to.result c.args.counts.now _ c.args.run refl c.requires.levels c.requires.held.numbered c.requires.held.counted c.level_for-from.ensures.block c.requires.limit
          c.landing-to.ensures.order c.landing-to.ensures.taken c.landing-to.ensures.free c.landing-to.ensures.within).less,
    )

done : (g : given.Over) (c : In-Ok g) → IsPut (length c.args.counts.now) c.args.front.now.items c.merge_in.new.front.items c.args.pieces.now.items c.push.new.self.items c.args.run c.add_to.new.counts
done g c =
    let at = landing_at (length c.args.counts.now) c.level_for-from.result c.landing-to.result c.args.counts.now _ c.args.run refl c.requires.levels c.requires.held.numbered c.requires.held.counted c.level_for-from.ensures.block c.requires.limit
    c.landing-to.ensures.order c.landing-to.ensures.taken c.landing-to.ensures.free c.landing-to.ensures.within in
    put_held (length c.args.counts.now) c.level_for-from.result c.landing-to.result c.args.low c.args.counts.now c.regroup.new.counts c.add_to.new.counts c.args.front.now.items c.regroup.new.front.items c.merge_in.new.front.items c.args.pieces.now.items
    c.regroup.new.pieces.items c.push.new.self.items c.args.run c.requires.held at c.level_for-from.ensures.block c.requires.apart c.requires.low c.regroup.ensures.parts c.regroup.ensures.same
    (subst (λ xs. IsMerged c.landing-to.result (take c.args.low xs) c.regroup.new.front.items c.merge_in.new.front.items) c.as_slice.ensures.items c.merge_in.ensures.merged) c.regroup.ensures.counted c.regroup.ensures.len
    (c.add_to.ensures ∙ ap (λ n. slice_set c.regroup.new.counts c.landing-to.result (slice_index_or c.regroup.new.counts c.landing-to.result 0 + n)) c.len.ensures.len)
    (c.in-Ok.ensures.items ∙ ap (λ (p : PieceState). c.regroup.new.pieces.items ++ p ∷ []) (c.new.ensures ∙ ap (λ xs. record { items = xs; level = c.landing-to.result }) c.remove_first.ensures))

pub returns-clause-held : goal.returns-clause-held
returns-clause-held g c = (done g c).held

pub returns-clause-blocks : goal.returns-clause-blocks
returns-clause-blocks g c = (done g c).blocks

pub returns-clause-total : goal.returns-clause-total
returns-clause-total g c = (done g c).total

pub add_to-requires-clause-count : goal.add_to-requires-clause-count
add_to-requires-clause-count g c =
    put_room _ c.landing-to.result _ _ c.regroup.new.counts c.args.front.now.items c.regroup.new.front.items c.args.pieces.now.items c.regroup.new.pieces.items c.regroup.ensures.same c.regroup.ensures.counted
    (omega (
      arith,
      c.regroup.ensures.len,
      (landing_at (length c.args.counts.now) c.level_for-from.result c.landing-to.result c.args.counts.now _ c.args.run refl c.requires.levels c.requires.held.numbered c.requires.held.counted c.level_for-from.ensures.block c.requires.limit
          c.landing-to.ensures.order c.landing-to.ensures.taken c.landing-to.ensures.free c.landing-to.ensures.within).less,
    )) (omega (arith, c.len.ensures.len, c.requires.few))

pub merge_in-requires-clause-items_ascending : goal.merge_in-requires-clause-items_ascending
merge_in-requires-clause-items_ascending g c = low_ascending c.args.low _ _ c.as_slice.ensures.items c.as_slice.ensures.ascending

pub merge_in-requires-clause-apart : goal.merge_in-requires-clause-apart
merge_in-requires-clause-apart g c = low_apart _ c.args.low c.args.front.now.items _ c.args.pieces.now.items _ _ _ c.as_slice.ensures.items c.regroup.ensures.same c.requires.apart

pub returns-clause-lengths : goal.returns-clause-lengths
returns-clause-lengths g c = merged_length _ _ c.args.low c.args.front.now.items _ _ c.args.pieces.now.items _ _ _ c.as_slice.ensures.items c.requires.low.within c.regroup.ensures.same c.merge_in.ensures.merged
