use Rattle.std.proofs.Common.{◌∷◌, ◌++◌, ◌∙◌, [], List, length, sym, ap, refl, subst}
use Rattle.klsm_run.specs.declared.item.Item.{Item}
use Rattle.klsm_schedules.specs.declared.step.Entry.TheVariants.{Acquired, Missed}
use Rattle.klsm_schedules.specs.OwnSteps.{hand_of}
use Rattle.klsm_parts.proofs.FitLemmas.{local_fits, shared_fits}
use Rattle.klsm_board.specs.Steps.{mine}
use Rattle.klsm_board.specs.Seats.{Has, Stands}
use Rattle.klsm_board.specs.Slots.{slot_content, IsSlotOf}
use Rattle.klsm_board.proofs.lemmas.hands.CommitLemmas.{has_still}
use Rattle.klsm_board.proofs.lemmas.seats.RestLemmas.{content_held, stands_at_rest, rests_after, holds_after}
use Rattle.klsm_board.proofs.lemmas.calls.AddedLemmas.{quiet_same}
use Rattle.klsm_board.proofs.board.Member.hold.Goals as goal

pub try_acquire-requires-clause-has : goal.try_acquire-requires-clause-has
try_acquire-requires-clause-has g c =
    let me = c.args.self in let board = c.args.board.now in let same = board.key ∙ sym c.requires.board.1 in
    ([], subst (λ m. Stands slot_content IsSlotOf m me.number [] me.seat.me) (sym same) (stands_at_rest g.row.CAP me.sizes me.in_range me.number me.inserted me.deleted me.seat.me me.rests), refl)

-- the lock was held
pub invariant_of-self : goal.invariant_of-self
invariant_of-self g c =
    let me = c.args.self in let t = me.number in let board = c.args.board.now in let same = board.key ∙ sym c.requires.board.1 in let rests = me.rests in
    let stands = subst (λ m. Stands slot_content IsSlotOf m t [] me.seat.me) (sym same) (stands_at_rest g.row.CAP me.sizes me.in_range t me.inserted me.deleted me.seat.me rests) in
    let after = c.try_acquire.new.seat.me in let busy = c.in-Err.ensures.busy in
    let quiet = quiet_same (mine me.seat.me.0) (Missed c.args.lock c.in-Err.busy.by ∷ []) (mine after.0) busy.2 refl in
    record {
      rests = rests_after g.row.CAP me.sizes me.in_range t me.inserted me.deleted after (subst (λ m. Has slot_content IsSlotOf m t [] after) same (busy.1 [] stands))
          (ap (λ (z : List Item). length z) quiet.inserted_are ∙ rests.insertions_are) (ap (λ (z : List Item). length z) quiet.deleted_are ∙ rests.deletions_are);
      in_range = me.in_range;
      capacity = me.capacity;
      levels = me.levels;
    }

-- the part was acquired
pub look-len-requires-clause-carries : goal.look-len-requires-clause-carries
look-len-requires-clause-carries g c =
    let me = c.args.self in let t = me.number in let board = c.args.board.now in let same = board.key ∙ sym c.requires.board.1 in
    let stands = subst (λ m. Stands slot_content IsSlotOf m t [] me.seat.me) (sym same) (stands_at_rest g.row.CAP me.sizes me.in_range t me.inserted me.deleted me.seat.me me.rests) in
    let acquired = c.in_default.ensures.ok [] stands in
    (acquired.0, [], acquired.1.carries)

pub invariant_of-result : goal.invariant_of-result
invariant_of-result g c =
    let me = c.args.self in let t = me.number in let board = c.args.board.now in let same = board.key ∙ sym c.requires.board.1 in let rests = me.rests in
    let stands = subst (λ m. Stands slot_content IsSlotOf m t [] me.seat.me) (sym same) (stands_at_rest g.row.CAP me.sizes me.in_range t me.inserted me.deleted me.seat.me rests) in
    let after = c.look-len.new.seat.me in let acquired = c.in_default.ensures.ok [] stands in
    let looked = c.look-len.ensures.looked acquired.0 [] acquired.1.carries in
    let has = has_still slot_content IsSlotOf board.table.shared.key t ((c.args.lock, acquired.0) ∷ []) c.try_acquire.new.seat.me after acquired.1 c.look-len.ensures.same.1 looked.0 in
    let quiet = quiet_same (mine me.seat.me.0) (Acquired c.args.lock acquired.0 ∷ []) (mine after.0) (ap mine c.look-len.ensures.same.1 ∙ acquired.2) refl in
    let held = holds_after g.row.CAP me.sizes me.in_range t me.inserted me.deleted c.args.lock c.look-len.result.0 c.look-len.result.1 acquired.0 after (subst (λ m. Has slot_content IsSlotOf m t ((c.args.lock, acquired.0) ∷ []) after) same has)
    c.requires.lock looked.1 looked.2 (ap (λ (z : List Item). length z) quiet.inserted_are ∙ rests.insertions_are) (ap (λ (z : List Item). length z) quiet.deleted_are ∙ rests.deletions_are) in
    record { holds = held; in_range = me.in_range; capacity = me.capacity; levels = me.levels }

pub returns-clause-ok : goal.returns-clause-ok
returns-clause-ok g c =
    let me = c.args.self in let t = me.number in let board = c.args.board.now in let same = board.key ∙ sym c.requires.board.1 in let rests = me.rests in
    let stands = subst (λ m. Stands slot_content IsSlotOf m t [] me.seat.me) (sym same) (stands_at_rest g.row.CAP me.sizes me.in_range t me.inserted me.deleted me.seat.me rests) in
    let after = c.look-len.new.seat.me in let acquired = c.in_default.ensures.ok [] stands in
    let looked = c.look-len.ensures.looked acquired.0 [] acquired.1.carries in
    let has = has_still slot_content IsSlotOf board.table.shared.key t ((c.args.lock, acquired.0) ∷ []) c.try_acquire.new.seat.me after acquired.1 c.look-len.ensures.same.1 looked.0 in
    let list = ap mine c.look-len.ensures.same.1 ∙ acquired.2 in
    let quiet = quiet_same (mine me.seat.me.0) (Acquired c.args.lock acquired.0 ∷ []) (mine after.0) list refl in (
      record { number = refl; sizes = refl; seat = c.look-len.ensures.same.0 ∙ c.try_acquire.ensures.same; inserted_are = quiet.inserted_are; deleted_are = quiet.deleted_are },
      refl,
      list ∙ ap (λ found. mine me.seat.me.0 ++ Acquired c.args.lock found ∷ []) (sym (content_held c.args.lock acquired.0 (hand_of t (mine after.0)) has.hand_is)),
    )

pub try_acquire-requires-room-S-Holding : goal.try_acquire-requires-room-S-Holding
try_acquire-requires-room-S-Holding g c κs = local_fits _ c.args.self.capacity

pub try_acquire-requires-room-S-Holding-2 : goal.try_acquire-requires-room-S-Holding-2
try_acquire-requires-room-S-Holding-2 g c κs = shared_fits _ c.args.self.levels

pub look-len-requires-room-S-PartSlot : goal.look-len-requires-room-S-PartSlot
look-len-requires-room-S-PartSlot g c κs = local_fits _ c.args.self.capacity

pub look-len-requires-room-S-PartSlot-2 : goal.look-len-requires-room-S-PartSlot-2
look-len-requires-room-S-PartSlot-2 g c κs = shared_fits _ c.args.self.levels

pub look-len-requires-room-S-Holding : goal.look-len-requires-room-S-Holding
look-len-requires-room-S-Holding g c κs = local_fits _ c.args.self.capacity

pub look-len-requires-room-S-Holding-2 : goal.look-len-requires-room-S-Holding-2
look-len-requires-room-S-Holding-2 g c κs = shared_fits _ c.args.self.levels

pub look-len-requires-room-S-Destruct : goal.look-len-requires-room-S-Destruct
look-len-requires-room-S-Destruct g c κs = shared_fits _ c.args.self.levels
