use Rattle.std.proofs.Common.{rules, arith, sym, subst, ◌≡◌, ◌<◌, ◌∙◌, ℕ, List, length}
use Rattle.std.specs.Slots.{slots_items}
use mathlib.Core.Option.{some}
use lib.ListN.{get_elem?}
use Rattle.atomic_table.specs.Table.{Final, Seen}
use Rattle.klsm_parts.specs.Parts.{PartState}
use Rattle.klsm_schedules.proofs.lemmas.lists.ListLemmas.{sorted_by_sort}
use Rattle.klsm_parts.proofs.FitLemmas.{local_fits, shared_fits}
use Rattle.klsm_board.specs.declared.board.Member.{Member}
use Rattle.klsm_board.specs.declared.sizes.Sizes.{Sizes}
use Rattle.klsm_board.specs.Boards.{IsOf}
use Rattle.klsm_board.specs.declared.rule.View.{View}
use Rattle.klsm_board.specs.declared.slot.Slot.{Slot}
use Rattle.klsm_board.specs.Rule.{Ruled}
use Rattle.klsm_board.specs.Slots.{slot_content, IsSlotOf}
use Rattle.klsm_board.specs.Finishing.{AreAll, Knows, lists_of}
use Rattle.klsm_board.proofs.lemmas.ending.CloseLemmas.{IsClosed, closes_board}
use Rattle.klsm_board.proofs.lemmas.ending.EndLemmas.{each_of, place_within}
use Rattle.klsm_board.proofs.board.Board.close.Goals as goal

-- a closed board has what the account of its own sizes leaves
ends_of : (CAP LEVELS : ℕ) (key m : Sizes) (members : List (Member CAP LEVELS)) (v : View) (id : ℕ) (words : List ℕ) (slots : List (Slot PartState PartState)) → key ≡ m → AreAll members m.threads
    → ((i : ℕ) (member : Member CAP LEVELS) → get_elem? members i ≡ some member → Knows v member)
    → Final (Seen (Ruled slot_content IsSlotOf key) id v) words slots
    → IsClosed slot_content m (lists_of m.threads members) slots
ends_of CAP LEVELS key m members v id words slots same all knows final =
    closes_board m members v id words slots all knows (subst (λ (z : Sizes). Final (Seen (Ruled slot_content IsSlotOf z) id v) words slots) same final)

pub join_all-seat-requires : goal.join_all-seat-requires
join_all-seat-requires g c =
    let members = c.args.members.items in let board = c.args.self in
    let first = c.requires.all 0 (omega (arith, board.in_range.some_thread)) in let some_member : 0 < length members = omega (arith, place_within members first.0 first.1 first.2) in
    (local_fits _ board.capacity, (shared_fits _ board.levels, (search rules, ((λ i member there. (each_of (λ z. IsOf z board) members c.requires.of i member there).0), (omega (arith, board.sized.0), some_member)))))

pub list_parts-requires-clause-room : goal.list_parts-requires-clause-room
list_parts-requires-clause-room g c =
    let members = c.args.members.items in let board = c.args.self in
    let ends = ends_of g.row.CAP g.row.LEVELS board.table.shared.key board.sizes members c.join_all-seat.result.me.0 c.join_all-seat.result.id (slots_items c.close_with-closed.result.words) (slots_items c.close_with-closed.result.slots) board.key c.requires.all c.join_all-seat.ensures.knows c.close_with-closed.ensures.values.2 in
    let adds_up = ends.adds_up in
    omega (arith, adds_up, c.requires.inserted, c.requires.deleted, c.requires.room)

pub returns-clause-at_end : goal.returns-clause-at_end
returns-clause-at_end g c =
    let members = c.args.members.items in let board = c.args.self in
    (ends_of g.row.CAP g.row.LEVELS board.table.shared.key board.sizes members c.join_all-seat.result.me.0 c.join_all-seat.result.id (slots_items c.close_with-closed.result.words) (slots_items c.close_with-closed.result.slots) board.key c.requires.all c.join_all-seat.ensures.knows c.close_with-closed.ensures.values.2).at_end

pub returns-clause-left : goal.returns-clause-left
returns-clause-left g c =
    let members = c.args.members.items in let board = c.args.self in
    let ends = ends_of g.row.CAP g.row.LEVELS board.table.shared.key board.sizes members c.join_all-seat.result.me.0 c.join_all-seat.result.id (slots_items c.close_with-closed.result.words) (slots_items c.close_with-closed.result.slots) board.key c.requires.all c.join_all-seat.ensures.knows c.close_with-closed.ensures.values.2 in
    let in_order = sorted_by_sort c.list_parts.new.all.items c.sort_unstable.new.self.items c.sort_unstable.ensures.permutation c.sort_unstable.ensures.sorted in
    in_order ∙ (c.list_parts.ensures.items ∙ sym ends.left_are)

pub returns-clause-each_once : goal.returns-clause-each_once
returns-clause-each_once g c =
    let members = c.args.members.items in let board = c.args.self in
    (ends_of g.row.CAP g.row.LEVELS board.table.shared.key board.sizes members c.join_all-seat.result.me.0 c.join_all-seat.result.id (slots_items c.close_with-closed.result.words) (slots_items c.close_with-closed.result.slots) board.key c.requires.all c.join_all-seat.ensures.knows c.close_with-closed.ensures.values.2).each_once

pub close_with-closed-requires-room-P-TableRule : goal.close_with-closed-requires-room-P-TableRule
close_with-closed-requires-room-P-TableRule g c κs = local_fits _ c.args.self.capacity

pub list_parts-requires-room-S-PartSlot : goal.list_parts-requires-room-S-PartSlot
list_parts-requires-room-S-PartSlot g c κs = local_fits _ c.args.self.capacity

pub list_parts-requires-room-S-PartSlot-2 : goal.list_parts-requires-room-S-PartSlot-2
list_parts-requires-room-S-PartSlot-2 g c κs = shared_fits _ c.args.self.levels

pub list_parts-requires-room-S-Holding : goal.list_parts-requires-room-S-Holding
list_parts-requires-room-S-Holding g c κs = local_fits _ c.args.self.capacity

pub list_parts-requires-room-S-Holding-2 : goal.list_parts-requires-room-S-Holding-2
list_parts-requires-room-S-Holding-2 g c κs = shared_fits _ c.args.self.levels

pub list_parts-requires-room-S-Destruct : goal.list_parts-requires-room-S-Destruct
list_parts-requires-room-S-Destruct g c κs = shared_fits _ c.args.self.levels

pub close_with-closed-requires-room-P-TableRule-2 : goal.close_with-closed-requires-room-P-TableRule-2
close_with-closed-requires-room-P-TableRule-2 g c κs = shared_fits _ c.args.self.levels

pub returns-clause-deleted : goal.returns-clause-deleted
returns-clause-deleted g c = search rules

pub returns-clause-inserted : goal.returns-clause-inserted
returns-clause-inserted g c = search rules
