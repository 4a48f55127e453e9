use Rattle.std.proofs.Common.{◌≡◌, ◌<◌, ◌∙◌, [], length, refl, sym, ap, subst, arith}
use Rattle.klsm_schedules.specs.OwnSteps.{inserted, deleted}
use Rattle.klsm_parts.proofs.FitLemmas.{local_fits, shared_fits}
use Rattle.klsm_board.specs.declared.sizes.Sizes.{Sizes}
use Rattle.klsm_board.specs.Rule.{IsSized}
use Rattle.klsm_board.specs.Effects.{MeetsHolder}
use Rattle.klsm_board.specs.Steps.{mine, rest_of}
use Rattle.klsm_board.specs.Seats.{Has, Stands}
use Rattle.klsm_board.specs.Slots.{slot_content, IsSlotOf}
use Rattle.klsm_board.proofs.lemmas.seats.RestLemmas.{stands_at_rest, rests_after}
use Rattle.klsm_board.proofs.lemmas.calls.AddedLemmas.{gained_counts}
use Rattle.klsm_board.proofs.lemmas.calls.SharingLemmas.{answered_gains}
use Rattle.klsm_board.proofs.board.Member.try_share.Goals as goal

pub invariant_of-self : goal.invariant_of-self
invariant_of-self g c =
    let me = c.args.self.now in let t = me.number in let es = mine me.seat.me.0 in let es' = mine c.share_now.new.seat.me.0 in
    let rests = me.rests in let board = c.args.board.now in let same = board.key ∙ sym c.requires.1 in
    let gains = answered_gains g.row.LEVELS t es es' c.share_now.result c.share_now.ensures.ok c.share_now.ensures.refused in
    let counts = gained_counts es es' [] [] me.inserted me.deleted gains rests.insertions_are rests.deletions_are in
    let first : length (inserted es') ≡ me.inserted = omega (arith, counts.0) in let second : length (deleted es') ≡ me.deleted = omega (arith, counts.1) in
    record { rests = rests_after g.row.CAP me.sizes me.in_range t me.inserted me.deleted c.share_now.new.seat.me (subst (λ m. Has slot_content IsSlotOf m t [] c.share_now.new.seat.me) same c.share_now.ensures.has) first second; in_range = me.in_range; capacity = me.capacity; levels = me.levels }

pub returns-clause-adds : goal.returns-clause-adds
returns-clause-adds g c =
    let me = c.args.self.now in
    let gains = answered_gains g.row.LEVELS me.number (mine me.seat.me.0) (mine c.share_now.new.seat.me.0) c.share_now.result c.share_now.ensures.ok c.share_now.ensures.refused in
    record { inserted_are = gains.inserted_are; deleted_are = gains.deleted_are }

pub returns-clause-same : goal.returns-clause-same
returns-clause-same g c = (refl, refl, c.share_now.ensures.same)

pub share_now-requires-room-S-PartSlot : goal.share_now-requires-room-S-PartSlot
share_now-requires-room-S-PartSlot g c κs = local_fits _ c.args.self.now.capacity

pub share_now-requires-room-S-PartSlot-2 : goal.share_now-requires-room-S-PartSlot-2
share_now-requires-room-S-PartSlot-2 g c κs = shared_fits _ c.args.self.now.levels

pub share_now-requires-room-S-Holding : goal.share_now-requires-room-S-Holding
share_now-requires-room-S-Holding g c κs = local_fits _ c.args.self.now.capacity

pub share_now-requires-room-S-Holding-2 : goal.share_now-requires-room-S-Holding-2
share_now-requires-room-S-Holding-2 g c κs = shared_fits _ c.args.self.now.levels

pub share_now-requires-room-S-Destruct : goal.share_now-requires-room-S-Destruct
share_now-requires-room-S-Destruct g c κs = shared_fits _ c.args.self.now.levels

pub share_now-requires-clause-sized : goal.share_now-requires-clause-sized
share_now-requires-clause-sized g c = (c.args.self.now.capacity, c.args.self.now.levels)

pub share_now-requires-clause-seat : goal.share_now-requires-clause-seat
share_now-requires-clause-seat g c =
    let me = c.args.self.now in let board = c.args.board.now in let same = board.key ∙ sym c.requires.1 in
    (c.requires.0, subst (λ (m : Sizes). IsSized board.table.shared.table_id m) (sym board.key) board.sized, subst (λ (m : Sizes). me.number < m.threads) (sym same) me.rests.thread)

pub share_now-requires-clause-stands : goal.share_now-requires-clause-stands
share_now-requires-clause-stands g c =
    let me = c.args.self.now in let same = c.args.board.now.key ∙ sym c.requires.1 in
    subst (λ (m : Sizes). Stands slot_content IsSlotOf m me.number [] me.seat.me) (sym same) (stands_at_rest g.row.CAP me.sizes me.in_range me.number me.inserted me.deleted me.seat.me me.rests)

pub share_now-requires-clause-threads : goal.share_now-requires-clause-threads
share_now-requires-clause-threads g c = let same = c.args.board.now.key ∙ sym c.requires.1 in ap (λ (m : Sizes). m.threads) (sym same)

pub returns-clause-holder : goal.returns-clause-holder
returns-clause-holder g c busy is =
    let me = c.args.self.now in let same = c.args.board.now.key ∙ sym c.requires.1 in
    subst (λ (m : Sizes). MeetsHolder m me.number (rest_of me.seat.me.0) (mine c.share_now.new.seat.me.0) busy) same (c.share_now.ensures.holder busy is)
