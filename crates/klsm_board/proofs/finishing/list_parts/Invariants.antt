use Rattle.std.proofs.Common.{◌≡◌, vec_len, vec_capacity}
use Rattle.std.specs.Mem.Slots.{slots_items, slots_filled, slots_len}
use Rattle.klsm_board.proofs.lemmas.ending.ListLemmas.{AreOut}
use Rattle.klsm_board.proofs.finishing.list_parts.Given as goal

-- the parts before this one are out, and their items are listed
abbrev pub invariant-loop-part : goal.invariant-loop-part
invariant-loop-part g l =
    (slots_items l.closed.slots ≡ slots_items l.initial.closed.slots)
    × (slots_len l.closed.slots ≡ slots_len l.initial.closed.slots)
    × AreOut g.S.Holding.content (slots_items l.initial.closed.slots) l.part (slots_filled l.closed.slots) l.all.items (vec_len l.all) (vec_capacity l.initial.all) (vec_capacity l.all)
