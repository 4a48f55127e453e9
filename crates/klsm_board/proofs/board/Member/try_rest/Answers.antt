use Rattle.std.proofs.Common.{IfErr, ◌≡◌, ◌<◌, ◌∙◌, [], length, refl, sym, subst, arith}
use Rattle.klsm_schedules.specs.OwnSteps.{inserted, deleted}
use Rattle.klsm_parts.proofs.FitLemmas.{local_fits, shared_fits}
use Rattle.klsm_board.specs.declared.sizes.Sizes.{Sizes}
use Rattle.klsm_board.specs.Effects.{MeetsHolder}
use Rattle.klsm_board.specs.Rule.{IsSized}
use Rattle.klsm_board.specs.Seats.{Has, Stands}
use Rattle.klsm_board.specs.Slots.{slot_content, IsSlotOf}
use Rattle.klsm_board.specs.Steps.{mine, rest_of}
use Rattle.klsm_board.proofs.lemmas.calls.AddedLemmas.{gained_counts}
use Rattle.klsm_board.proofs.lemmas.calls.RestingLemmas.{rest_gains}
use Rattle.klsm_board.proofs.lemmas.seats.RestLemmas.{stands_at_rest, rests_after}
use Rattle.klsm_board.proofs.board.Member.try_rest.Goals as goal

pub invariant_of-self : goal.invariant_of-self
invariant_of-self g c =
    let me = c.args.self.now in let t = me.number in let es = mine me.seat.me.0 in let es' = mine c.rest_now.new.seat.me.0 in
    let rests = me.rests in let same = c.args.board.now.key ∙ sym c.requires.1 in
    let gains = rest_gains t es es' c.rest_now.result c.rest_now.ensures.ok c.rest_now.ensures.busy in
    let counts = gained_counts es es' [] [] me.inserted me.deleted gains rests.insertions_are rests.deletions_are in
    let first : length (inserted es') ≡ me.inserted = omega (arith, counts.0) in let second : length (deleted es') ≡ me.deleted = omega (arith, counts.1) in
    record { rests = rests_after g.row.CAP me.sizes me.in_range t me.inserted me.deleted c.rest_now.new.seat.me (subst (λ m. Has slot_content IsSlotOf m t [] c.rest_now.new.seat.me) same c.rest_now.ensures.has) first second; in_range = me.in_range; capacity = me.capacity; levels = me.levels }

pub returns-clause-adds : goal.returns-clause-adds
returns-clause-adds g c =
    let me = c.args.self.now in
    let gains = rest_gains me.number (mine me.seat.me.0) (mine c.rest_now.new.seat.me.0) c.rest_now.result c.rest_now.ensures.ok c.rest_now.ensures.busy in
    record { inserted_are = gains.inserted_are; deleted_are = gains.deleted_are }

pub returns-clause-same : goal.returns-clause-same
returns-clause-same g c = (refl, refl, c.rest_now.ensures.same)

pub rest_now-requires-room-S-Holding : goal.rest_now-requires-room-S-Holding
rest_now-requires-room-S-Holding g c κs = local_fits _ c.args.self.now.capacity

pub rest_now-requires-room-S-Holding-2 : goal.rest_now-requires-room-S-Holding-2
rest_now-requires-room-S-Holding-2 g c κs = shared_fits _ c.args.self.now.levels

pub rest_now-requires-clause-seat : goal.rest_now-requires-clause-seat
rest_now-requires-clause-seat g c =
    let me = c.args.self.now in let board = c.args.board.now in let same = board.key ∙ sym c.requires.1 in
    (c.requires.0, subst (λ (m : Sizes). IsSized board.table.shared.table_id m) (sym board.key) board.sized, subst (λ (m : Sizes). me.number < m.threads) (sym same) me.rests.thread)

pub rest_now-requires-clause-stands : goal.rest_now-requires-clause-stands
rest_now-requires-clause-stands g c =
    let me = c.args.self.now in let same = c.args.board.now.key ∙ sym c.requires.1 in
    subst (λ (m : Sizes). Stands slot_content IsSlotOf m me.number [] me.seat.me) (sym same) (stands_at_rest g.row.CAP me.sizes me.in_range me.number me.inserted me.deleted me.seat.me me.rests)

pub returns-clause-ok : goal.returns-clause-ok
returns-clause-ok g c = c.rest_now.ensures.ok

pub returns-clause-busy : goal.returns-clause-busy
returns-clause-busy g c = c.rest_now.ensures.busy

pub returns-clause-holder : goal.returns-clause-holder
returns-clause-holder g c =
    let me = c.args.self.now in let same = c.args.board.now.key ∙ sym c.requires.1 in
    subst (λ (m : Sizes). IfErr c.rest_now.result (MeetsHolder m me.number (rest_of me.seat.me.0) (mine c.rest_now.new.seat.me.0))) same c.rest_now.ensures.holder
