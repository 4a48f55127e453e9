use Rattle.std.proofs.Common.{◌≡◌, List, [], ◌++◌, length, refl, sym, ap, ◌∙◌, arith, Result, OnOk}
use Rattle.std.proofs.lemmas.List.{append-nil}
use Rattle.std.proofs.lemmas.Result.{on_ok_weaker}
use Rattle.std.specs.declared.alloc.AllocError.{AllocError}
use Rattle.klsm_run.specs.declared.item.Item.{Item}
use Rattle.klsm_run.specs.Content.{sorted}
use Rattle.klsm_parts.specs.Parts.{PartState, items_in}
use Rattle.klsm_parts.proofs.AppendLemmas.{so_many_in}
use Rattle.klsm_board.specs.Slots.{slot_content}
use Rattle.klsm_board.proofs.lemmas.slots.KindLemmas.{AnyHome}
use Rattle.klsm_board.proofs.slot.BoardSlotPartSlot.append_to.Goals as goal

-- the items that were appended are those of a slot where they are its part's
appended : (answer : Result (Unit {0}) AllocError) (all all' items content : List Item) → OnOk answer (all' ≡ all ++ items) → sorted items ≡ content → OnOk answer ((found : List Item) × (sorted found ≡ content) × (all' ≡ all ++ found))
appended answer all all' items content outcome same = on_ok_weaker answer (λ is. (items, same, is)) outcome

-- a list that has room for the items of a part has it for those of its blocks
pub returns-in-Own-clause-succeeds : goal.returns-in-Own-clause-succeeds
returns-in-Own-clause-succeeds g c =
    let same = ap (λ s. length (slot_content s)) c.in-Own.is ∙ (ap (λ (home : AnyHome). length (items_in home.part)) (sym c.get.ensures) ∙ so_many_in c.get.result.now.part) in
    λ room. c.append_to.ensures.succeeds (omega (arith, room, same))

pub returns-in-Common-clause-succeeds : goal.returns-in-Common-clause-succeeds
returns-in-Common-clause-succeeds g c =
    let same = ap (λ s. length (slot_content s)) c.in-Common.is ∙ (ap (λ (p : PartState). length (items_in p)) (sym c.get-in-Common.ensures) ∙ so_many_in c.get-in-Common.result.now) in
    λ room. c.append_to-in-Common.ensures.succeeds (omega (arith, room, same))

pub append_to-requires : goal.append_to-requires
append_to-requires g c = search

pub append_to-requires-in-Common : goal.append_to-requires-in-Common
append_to-requires-in-Common g c = search

pub returns-in-Own-clause-items : goal.returns-in-Own-clause-items
returns-in-Own-clause-items g c =
    appended c.append_to.result c.args.all.now.items c.append_to.new.all.items _ _ c.append_to.ensures.items (ap (λ (home : AnyHome). items_in home.part) c.get.ensures ∙ sym (ap slot_content c.in-Own.is))

pub returns-in-Own-clause-capacity : goal.returns-in-Own-clause-capacity
returns-in-Own-clause-capacity g c = c.append_to.ensures.capacity

pub returns-in-Common-clause-items : goal.returns-in-Common-clause-items
returns-in-Common-clause-items g c =
    appended c.append_to-in-Common.result c.args.all.now.items c.append_to-in-Common.new.all.items _ _ c.append_to-in-Common.ensures.items (ap items_in c.get-in-Common.ensures ∙ sym (ap slot_content c.in-Common.is))

pub returns-in-Common-clause-capacity : goal.returns-in-Common-clause-capacity
returns-in-Common-clause-capacity g c = c.append_to-in-Common.ensures.capacity

pub returns-in-Vacant-clause-items : goal.returns-in-Vacant-clause-items
returns-in-Vacant-clause-items g c = ([], sym (ap slot_content c.in-Vacant.is), sym (append-nil c.args.all.now.items))

pub returns-in-Vacant-clause-capacity : goal.returns-in-Vacant-clause-capacity
returns-in-Vacant-clause-capacity g c = omega arith

pub returns-in-Vacant-clause-succeeds : goal.returns-in-Vacant-clause-succeeds
returns-in-Vacant-clause-succeeds g c = λ room. refl
