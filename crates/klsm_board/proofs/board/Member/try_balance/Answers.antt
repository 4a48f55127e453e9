use Rattle.std.proofs.Common.{IfErr, IfOk, ◌≡◌, ◌<◌, ◌∙◌, [], length, refl, sym, ap, subst, arith}
use Rattle.klsm_schedules.specs.OwnSteps.{inserted, deleted}
use Rattle.klsm_parts.proofs.FitLemmas.{local_fits, shared_fits}
use Rattle.klsm_board.specs.declared.sizes.Sizes.{Sizes}
use Rattle.klsm_board.specs.Rule.{IsSized}
use Rattle.klsm_board.specs.Effects.{MeetsHolder}
use Rattle.klsm_board.specs.Steps.{mine, rest_of}
use Rattle.klsm_board.specs.Stealing.{Balances}
use Rattle.klsm_board.specs.Seats.{Has, Stands}
use Rattle.klsm_board.specs.Slots.{slot_content, IsSlotOf}
use Rattle.klsm_board.proofs.lemmas.seats.RestLemmas.{stands_at_rest, rests_after}
use Rattle.klsm_board.proofs.lemmas.calls.AddedLemmas.{gained_counts}
use Rattle.klsm_board.proofs.lemmas.calls.StealLemmas.{balance_gains}
use Rattle.klsm_board.proofs.board.Member.try_balance.Goals as goal

pub invariant_of-self : goal.invariant_of-self
invariant_of-self g c =
    let me = c.args.self.now in let t = me.number in let es = mine me.seat.me.0 in let es' = mine c.balance_now.new.seat.me.0 in
    let rests = me.rests in let board = c.args.board.now in let same = board.key ∙ sym c.requires.board.1 in
    let gains = balance_gains c.args.board.now.table.shared.key t c.args.most c.args.victim es es' c.balance_now.result c.balance_now.ensures.ok c.balance_now.ensures.busy in
    let counts = gained_counts es es' [] [] me.inserted me.deleted gains rests.insertions_are rests.deletions_are in
    let first : length (inserted es') ≡ me.inserted = omega (arith, counts.0) in let second : length (deleted es') ≡ me.deleted = omega (arith, counts.1) in
    record { rests = rests_after g.row.CAP me.sizes me.in_range t me.inserted me.deleted c.balance_now.new.seat.me (subst (λ m. Has slot_content IsSlotOf m t [] c.balance_now.new.seat.me) same c.balance_now.ensures.has) first second; in_range = me.in_range; capacity = me.capacity; levels = me.levels }

pub returns-clause-adds : goal.returns-clause-adds
returns-clause-adds g c =
    let me = c.args.self.now in
    let gains = balance_gains c.args.board.now.table.shared.key me.number c.args.most c.args.victim (mine me.seat.me.0) (mine c.balance_now.new.seat.me.0) c.balance_now.result c.balance_now.ensures.ok c.balance_now.ensures.busy in
    record { inserted_are = gains.inserted_are; deleted_are = gains.deleted_are }

pub returns-clause-same : goal.returns-clause-same
returns-clause-same g c = (refl, refl, c.balance_now.ensures.same)

pub balance_now-requires-room-S-PartSlot : goal.balance_now-requires-room-S-PartSlot
balance_now-requires-room-S-PartSlot g c κs = local_fits _ c.args.self.now.capacity

pub balance_now-requires-room-S-PartSlot-2 : goal.balance_now-requires-room-S-PartSlot-2
balance_now-requires-room-S-PartSlot-2 g c κs = shared_fits _ c.args.self.now.levels

pub balance_now-requires-room-S-Holding : goal.balance_now-requires-room-S-Holding
balance_now-requires-room-S-Holding g c κs = local_fits _ c.args.self.now.capacity

pub balance_now-requires-room-S-Holding-2 : goal.balance_now-requires-room-S-Holding-2
balance_now-requires-room-S-Holding-2 g c κs = shared_fits _ c.args.self.now.levels

pub balance_now-requires-room-S-Destruct : goal.balance_now-requires-room-S-Destruct
balance_now-requires-room-S-Destruct g c κs = shared_fits _ c.args.self.now.levels

pub balance_now-requires-clause-sized : goal.balance_now-requires-clause-sized
balance_now-requires-clause-sized g c = (c.args.self.now.capacity, c.args.self.now.levels)

pub balance_now-requires-clause-seat : goal.balance_now-requires-clause-seat
balance_now-requires-clause-seat g c =
    let me = c.args.self.now in let board = c.args.board.now in let same = board.key ∙ sym c.requires.board.1 in
    (c.requires.board.0, subst (λ (m : Sizes). IsSized board.table.shared.table_id m) (sym board.key) board.sized, subst (λ (m : Sizes). me.number < m.threads) (sym same) me.rests.thread)

pub balance_now-requires-clause-stands : goal.balance_now-requires-clause-stands
balance_now-requires-clause-stands g c =
    let me = c.args.self.now in let same = c.args.board.now.key ∙ sym c.requires.board.1 in
    subst (λ (m : Sizes). Stands slot_content IsSlotOf m me.number [] me.seat.me) (sym same) (stands_at_rest g.row.CAP me.sizes me.in_range me.number me.inserted me.deleted me.seat.me me.rests)

pub balance_now-requires-clause-victim : goal.balance_now-requires-clause-victim
balance_now-requires-clause-victim g c =
    let me = c.args.self.now in let same = c.args.board.now.key ∙ sym c.requires.board.1 in
    (subst (λ (m : Sizes). c.args.victim < m.threads) (sym same) c.requires.victim.0, c.requires.victim.1)

pub balance_now-requires-clause-threads : goal.balance_now-requires-clause-threads
balance_now-requires-clause-threads g c = let same = c.args.board.now.key ∙ sym c.requires.board.1 in ap (λ (m : Sizes). m.threads) (sym same)

pub returns-clause-ok : goal.returns-clause-ok
returns-clause-ok g c =
    let me = c.args.self.now in let same = c.args.board.now.key ∙ sym c.requires.board.1 in
    subst (λ (m : Sizes). IfOk c.balance_now.result (Balances m me.number c.args.most c.args.victim (mine me.seat.me.0) (mine c.balance_now.new.seat.me.0))) same c.balance_now.ensures.ok

pub returns-clause-holder : goal.returns-clause-holder
returns-clause-holder g c =
    let me = c.args.self.now in let same = c.args.board.now.key ∙ sym c.requires.board.1 in
    subst (λ (m : Sizes). IfErr c.balance_now.result (MeetsHolder m me.number (rest_of me.seat.me.0) (mine c.balance_now.new.seat.me.0))) same c.balance_now.ensures.holder
