use Rattle.klsm_pile.specs.Front.{parts}
use Rattle.klsm_pile.proofs.CopyingLemmas.{level_room, level_read, level_up, level_fits, level_copied}
use Rattle.klsm_pile.proofs.copying.copy_block.Goals as goal

pub copy_of_for-requires-clause-room : goal.copy_of_for-requires-clause-room
copy_of_for-requires-clause-room g c = level_room c.args.level c.args.count (parts c.args.front.now.items c.args.pieces.now) c.requires.count c.requires.few

pub unite_items-requires-clause-ascending : goal.unite_items-requires-clause-ascending
unite_items-requires-clause-ascending g c =
    level_up c.args.level (parts c.args.front.now.items c.args.pieces.now) _ c.requires.distinct
    (level_read c.args.level (parts c.args.front.now.items c.args.pieces.now) _ _ _ c.as_slice.ensures.value c.in_ok-append_block.ensures.items c.in-Ok.ensures.items)

pub unite_items-requires-clause-room : goal.unite_items-requires-clause-room
unite_items-requires-clause-room g c =
    level_fits c.args.level c.args.count _ (parts c.args.front.now.items c.args.pieces.now) _ _ _ c.requires.count
    (level_read c.args.level (parts c.args.front.now.items c.args.pieces.now) _ _ _ c.as_slice.ensures.value c.in_ok-append_block.ensures.items c.in-Ok.ensures.items)
    c.in-Ok-copy_of_for.ensures.items c.empty-none.ensures c.in-Ok-copy_of_for.ensures.reserved.holds

pub returns : goal.returns
returns g c =
    level_copied c.args.level (parts c.args.front.now.items c.args.pieces.now) _ _ _ _
    (level_read c.args.level (parts c.args.front.now.items c.args.pieces.now) _ _ _ c.as_slice.ensures.value c.in_ok-append_block.ensures.items c.in-Ok.ensures.items)
    c.in-Ok-copy_of_for.ensures.items c.empty-none.ensures c.unite_items.ensures.union
