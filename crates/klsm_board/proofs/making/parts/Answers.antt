use Rattle.std.proofs.Common.{◌≡◌, ◌+◌, ◌∷◌, ◌++◌, ◌∙◌, List, [], ap, arith, length, refl, sym, length-append}
use lib.ListN.{get_elem?}
use Rattle.klsm_parts.proofs.FitLemmas.{local_fits, shared_fits}
use Rattle.klsm_board.specs.declared.slot.Slot.TheVariants.{Own, Common}
use Rattle.klsm_board.specs.Slots.{slot_content, IsSlotOf}
use Rattle.klsm_board.proofs.lemmas.slots.KindLemmas.{AnySlot}
use Rattle.klsm_board.proofs.lemmas.table.MakeLemmas.{none_at_start, at_new_end, empty_common, empty_own}
use Rattle.klsm_board.proofs.making.parts.Goals as goal

pub new-requires-2-room-T-Destruct : goal.new-requires-2-room-T-Destruct
new-requires-2-room-T-Destruct g c κs = shared_fits _ c.requires.levels

pub drop-all-requires-room-T-Destruct : goal.drop-all-requires-room-T-Destruct
drop-all-requires-room-T-Destruct g c κs = shared_fits _ c.requires.levels

pub from_residual-requires-in_err-push-room-F-From : goal.from_residual-requires-in_err-push-room-F-From
from_residual-requires-in_err-push-room-F-From g c κs = shared_fits _ c.requires.levels

pub drop-all-requires-in_err-push-room-T-Destruct : goal.drop-all-requires-in_err-push-room-T-Destruct
drop-all-requires-in_err-push-room-T-Destruct g c κs = shared_fits _ c.requires.levels

pub drop-all-requires-in_err-empty_home-room-T-Destruct : goal.drop-all-requires-in_err-empty_home-room-T-Destruct
drop-all-requires-in_err-empty_home-room-T-Destruct g c κs = shared_fits _ c.requires.levels

pub from_residual-requires-in_err-push-2-room-F-From : goal.from_residual-requires-in_err-push-2-room-F-From
from_residual-requires-in_err-push-2-room-F-From g c κs = shared_fits _ c.requires.levels

pub drop-all-requires-in_err-push-2-room-T-Destruct : goal.drop-all-requires-in_err-push-2-room-T-Destruct
drop-all-requires-in_err-push-2-room-T-Destruct g c κs = shared_fits _ c.requires.levels

pub new-requires : goal.new-requires
new-requires g c = (shared_fits _ c.requires.levels, (c.requires.levels, omega (arith, c.requires.k, c.requires.capacity.at_most)))

pub empty_home-requires : goal.empty_home-requires
empty_home-requires g c = (local_fits _ c.requires.capacity, (c.requires.capacity, c.requires.k))

pub loop-init : goal.loop-init
loop-init g c =
    let part = c.in_ok-new.field-0 in
    let items : c.push.new.self.items ≡ Common part ∷ [] = c.in_ok-push.ensures.items ∙ ap (λ (z : List AnySlot). z ++ Common part ∷ []) c.new-all.ensures.items in
    record {
      many = ap (λ (z : List AnySlot). length z) items;
      empty = λ i slot at. at_new_end [] (Common part) 0 refl (λ j z. (slot_content z ≡ []) × IsSlotOf c.args.k j z) (λ j z there. absurd (none_at_start [] refl j z there))
          (empty_common c.args.k part (c.in_ok-new.ensures ∙ c.new.ensures)) i slot (ap (λ (z : List AnySlot). get_elem? z i) (sym items) ∙ at);
    }

pub loop-preserved : goal.loop-preserved
loop-preserved g c =
    let inv = c.loop.invariant in let home = c.in_ok-empty_home.field-0 in let told = c.in_ok-empty_home.ensures in
    let items : c.push-in-loop.new.self.items ≡ c.loop.all.items ++ Own home ∷ [] = c.in_ok-push-2.ensures.items in
    record {
      many = ap (λ (z : List AnySlot). length z) items ∙ (length-append c.loop.all.items (Own home ∷ []) ∙ ap (λ z. z + 1) inv.many);
      empty = λ i slot at. at_new_end c.loop.all.items (Own home) (c.loop.counter + 1) inv.many (λ j z. (slot_content z ≡ []) × IsSlotOf c.args.k j z) inv.empty
          (empty_own c.args.k (c.loop.counter + 1) home (omega arith) told.0 told.1 told.2 told.3) i slot (ap (λ (z : List AnySlot). get_elem? z i) (sym items) ∙ at);
    }

pub returns : goal.returns
returns g c =
    let all : c.loop.counter ≡ c.args.threads = omega arith in
    (c.loop.invariant.many ∙ ap (λ n. n + 1) all, c.loop.invariant.empty)
