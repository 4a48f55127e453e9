use Rattle.std.proofs.Common.{length, List, sym, subst, ap, ◌∙◌, arith}
use Rattle.klsm_run.specs.declared.item.Item.{Item}
use Rattle.klsm_run.specs.Content.{ShareNone}
use Rattle.klsm_lsm.specs.Adding.{add}
use Rattle.klsm_pile.specs.Front.{parts}
use Rattle.klsm_pile.specs.Pieces.{every_item}
use Rattle.klsm_pile.proofs.AbsorbLemmas.{pieces_distinct, parts_same, united_held, same_total, same_apart, pieces_few}
use Rattle.klsm_pile.proofs.PileLemmas.{same_blocks}
use Rattle.klsm_pile.proofs.absorbing.absorb.Goals as goal

pub make_room-requires-clause-apart : goal.make_room-requires-clause-apart
make_room-requires-clause-apart g c = subst (λ (xs : List Item). ShareNone (every_item (parts c.args.front.now.items c.args.pieces.now.items)) xs) (sym c.as_slice.ensures.items) c.requires.apart

pub returns-in_err-low-clause-held : goal.returns-in_err-low-clause-held
returns-in_err-low-clause-held g c = c.make_room.ensures.held c.args.counts.now c.requires.held

pub put-requires-clause-held : goal.put-requires-clause-held
put-requires-clause-held g c = c.make_room.ensures.held c.args.counts.now c.requires.held

pub put-requires-clause-apart : goal.put-requires-clause-apart
put-requires-clause-apart g c = same_apart _ (parts c.make_room.new.front.items c.make_room.new.pieces.items) c.args.run c.make_room.ensures.same c.requires.apart

pub put-requires-clause-limit : goal.put-requires-clause-limit
put-requires-clause-limit g c = omega (arith, c.requires.limit, same_total (parts c.make_room.new.front.items c.make_room.new.pieces.items) _ c.make_room.ensures.same)

pub put-requires-clause-few : goal.put-requires-clause-few
put-requires-clause-few g c = omega (arith, c.requires.few, same_total (parts c.make_room.new.front.items c.make_room.new.pieces.items) _ c.make_room.ensures.same)

pub unite_last-requires-clause-distinct : goal.unite_last-requires-clause-distinct
unite_last-requires-clause-distinct g c = pieces_distinct (length c.args.counts.now) _ _ _ c.put.ensures.held

pub unite_last-requires-clause-few : goal.unite_last-requires-clause-few
unite_last-requires-clause-few g c =
    omega (arith, pieces_few c.put.new.front.items c.put.new.pieces.items, c.put.ensures.total, c.requires.few, same_total (parts c.make_room.new.front.items c.make_room.new.pieces.items) _ c.make_room.ensures.same)

pub returns-clause-held : goal.returns-clause-held
returns-clause-held g c = united_held (length c.args.counts.now) _ _ _ _ c.put.ensures.held c.unite_last.ensures.same c.unite_last.ensures.below

pub returns-clause-blocks : goal.returns-clause-blocks
returns-clause-blocks g c =
    same_blocks (length c.args.counts.now) c.put.new.front.items c.put.new.front.items c.unite_last.new.pieces.items c.put.new.pieces.items (parts_same _ _ _ c.unite_last.ensures.same)
    ∙ (c.put.ensures.blocks
    ∙ ap (λ bs. add bs c.args.run) (same_blocks (length c.args.counts.now) c.make_room.new.front.items c.args.front.now.items c.make_room.new.pieces.items c.args.pieces.now.items c.make_room.ensures.same))

pub returns-clause-total : goal.returns-clause-total
returns-clause-total g c =
    omega (
      arith,
      same_total (parts c.put.new.front.items c.unite_last.new.pieces.items) (parts c.put.new.front.items c.put.new.pieces.items) (parts_same _ _ _ c.unite_last.ensures.same),
      c.put.ensures.total,
      same_total (parts c.make_room.new.front.items c.make_room.new.pieces.items) _ c.make_room.ensures.same,
    )
