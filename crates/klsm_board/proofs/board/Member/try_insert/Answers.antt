use Rattle.std.proofs.Common.{◌≡◌, ◌+◌, ◌<◌, ◌∷◌, ◌++◌, ◌∙◌, [], length, refl, sym, ap, subst, arith}
use Rattle.std.proofs.lemmas.List.{append-nil}
use Rattle.std.proofs.lemmas.Result.{IfOk-from_err}
use Rattle.klsm_run.specs.declared.item.Item.{Item}
use Rattle.klsm_run.specs.declared.item.Stamp.{Stamp}
use Rattle.klsm_schedules.specs.OwnSteps.{inserted, deleted}
use Rattle.klsm_parts.proofs.FitLemmas.{local_fits, shared_fits}
use Rattle.klsm_board.specs.declared.errors.TryInsertError.{TryInsertError}
use Rattle.klsm_board.specs.declared.sizes.Sizes.{Sizes}
use Rattle.klsm_board.specs.Rule.{IsSized}
use Rattle.klsm_board.specs.Steps.{mine, rest_of}
use Rattle.klsm_board.specs.Effects.{MeetsHolder}
use Rattle.klsm_board.specs.Inserting.{Inserts, RefusesInsert, stamped}
use Rattle.klsm_board.specs.Seats.{Has, Stands}
use Rattle.klsm_board.specs.Slots.{slot_content, IsSlotOf}
use Rattle.klsm_board.proofs.lemmas.seats.RestLemmas.{stands_at_rest, rests_after}
use Rattle.klsm_board.proofs.lemmas.calls.AddedLemmas.{inserts_gain, refused_gains, gained_counts, began, passed_on, of_error}
use Rattle.klsm_board.proofs.lemmas.calls.WaitLemmas.{busy_not_spent}
use Rattle.klsm_board.proofs.board.Member.try_insert.Goals as goal

pub invariant_of-self : goal.invariant_of-self
invariant_of-self g c =
    let me = c.args.self.now in let t = me.number in let es = mine me.seat.me.0 in let es' = mine c.insert_now.new.seat.me.0 in
    let rests = me.rests in let board = c.args.board.now in let same = board.key ∙ sym c.requires.1 in
    let gains = refused_gains g.row.LEVELS c.args.board.now.table.shared.key.k t es es' _ c.in_err-insert_now.ensures.refused in
    let counts = gained_counts es es' [] [] me.inserted me.deleted gains rests.insertions_are rests.deletions_are in
    let first : length (inserted es') ≡ me.inserted = omega (arith, counts.0) in let second : length (deleted es') ≡ me.deleted = omega (arith, counts.1) in
    record { rests = rests_after g.row.CAP me.sizes me.in_range t me.inserted me.deleted c.insert_now.new.seat.me (subst (λ m. Has slot_content IsSlotOf m t [] c.insert_now.new.seat.me) same c.in_err-insert_now.ensures.has) first second; in_range = me.in_range; capacity = me.capacity; levels = me.levels }

pub invariant_of-self-2 : goal.invariant_of-self-2
invariant_of-self-2 g c =
    let me = c.args.self.now in let t = me.number in let es = mine me.seat.me.0 in let es' = mine c.insert_now.new.seat.me.0 in
    let rests = me.rests in let board = c.args.board.now in let same = board.key ∙ sym c.requires.1 in let x = c.next_item-item.result in
    let gains = inserts_gain g.row.LEVELS c.args.board.now.table.shared.key.k t es es' x c.in_ok-insert_now.ensures.ok in
    let counts = gained_counts es es' (x ∷ []) [] me.inserted me.deleted gains rests.insertions_are rests.deletions_are in
    let first : length (inserted es') ≡ me.inserted + 1 = omega (arith, counts.0) in let second : length (deleted es') ≡ me.deleted = omega (arith, counts.1) in
    record { rests = rests_after g.row.CAP me.sizes me.in_range t (me.inserted + 1) me.deleted c.insert_now.new.seat.me (subst (λ m. Has slot_content IsSlotOf m t [] c.insert_now.new.seat.me) same c.in_ok-insert_now.ensures.has) first second; in_range = me.in_range; capacity = me.capacity; levels = me.levels }

pub returns-then-self-clause-refused : goal.returns-then-self-clause-refused
returns-then-self-clause-refused g c =
    let me = c.args.self.now in let es = mine me.seat.me.0 in
    (record { inserted_are = sym (append-nil (inserted es)); deleted_are = sym (append-nil (deleted es)) }, (me.rests.insertions_are ∙ c.if-self.true, refl))

pub insert_now-requires-room-S-PartSlot : goal.insert_now-requires-room-S-PartSlot
insert_now-requires-room-S-PartSlot g c κs = local_fits _ c.args.self.now.capacity

pub insert_now-requires-room-S-PartSlot-2 : goal.insert_now-requires-room-S-PartSlot-2
insert_now-requires-room-S-PartSlot-2 g c κs = shared_fits _ c.args.self.now.levels

pub insert_now-requires-room-S-Holding : goal.insert_now-requires-room-S-Holding
insert_now-requires-room-S-Holding g c κs = local_fits _ c.args.self.now.capacity

pub insert_now-requires-room-S-Holding-2 : goal.insert_now-requires-room-S-Holding-2
insert_now-requires-room-S-Holding-2 g c κs = shared_fits _ c.args.self.now.levels

pub insert_now-requires-room-S-Destruct : goal.insert_now-requires-room-S-Destruct
insert_now-requires-room-S-Destruct g c κs = shared_fits _ c.args.self.now.levels

pub returns-clause-ok : goal.returns-clause-ok
returns-clause-ok g c =
    let me = c.args.self.now in let es = mine me.seat.me.0 in let es' = mine c.insert_now.new.seat.me.0 in
    let same = c.args.board.now.key ∙ sym c.requires.1 in let is = c.next_item-item.ensures in
    let item_is = is ∙ ap (λ (stamp : Stamp). stamped c.args.key stamp c.args.load) (sym (ap (λ (x : Item). x.stamp) is)) in
    subst (λ (m : Sizes). Inserts g.row.LEVELS m.k me.number es es' (stamped c.args.key c.next_item-item.result.stamp c.args.load)) same
    (subst (λ (x : Item). Inserts g.row.LEVELS c.args.board.now.table.shared.key.k me.number es es' x) item_is c.in_ok-insert_now.ensures.ok)

pub returns-then-self-clause-same : goal.returns-then-self-clause-same
returns-then-self-clause-same g c = (refl, refl, refl)

pub returns-then-self-clause-stamp : goal.returns-then-self-clause-stamp
returns-then-self-clause-stamp g c = tt

pub returns-then-self-clause-ok : goal.returns-then-self-clause-ok
returns-then-self-clause-ok g c = tt

pub returns-then-self-clause-adds : goal.returns-then-self-clause-adds
returns-then-self-clause-adds g c = tt

pub returns-then-self-clause-spent : goal.returns-then-self-clause-spent
returns-then-self-clause-spent g c = (λ is. c.args.self.now.rests.insertions_are ∙ c.if-self.true, λ full. refl)

pub insert_now-requires-clause-sized : goal.insert_now-requires-clause-sized
insert_now-requires-clause-sized g c = (c.args.self.now.capacity, c.args.self.now.levels)

pub insert_now-requires-clause-seat : goal.insert_now-requires-clause-seat
insert_now-requires-clause-seat g c =
    let me = c.args.self.now in let board = c.args.board.now in let same = board.key ∙ sym c.requires.1 in
    (c.requires.0, subst (λ (m : Sizes). IsSized board.table.shared.table_id m) (sym board.key) board.sized, subst (λ (m : Sizes). me.number < m.threads) (sym same) me.rests.thread)

pub insert_now-requires-clause-stamp : goal.insert_now-requires-clause-stamp
insert_now-requires-clause-stamp g c =
    let is = c.next_item-item.ensures in
    record { owner = ap (λ (x : Item). x.stamp.owner) is; number = ap (λ (x : Item). x.stamp.number) is }

pub insert_now-requires-clause-room : goal.insert_now-requires-clause-room
insert_now-requires-clause-room g c =
    let me = c.args.self.now in let same = c.args.board.now.key ∙ sym c.requires.1 in
    omega (arith, me.rests.insertions_are, me.rests.within, c.if-self.false, ap (λ (m : Sizes). m.quota) same)

pub insert_now-requires-clause-stands : goal.insert_now-requires-clause-stands
insert_now-requires-clause-stands g c =
    let me = c.args.self.now in let same = c.args.board.now.key ∙ sym c.requires.1 in
    subst (λ (m : Sizes). Stands slot_content IsSlotOf m me.number [] me.seat.me) (sym same) (stands_at_rest g.row.CAP me.sizes me.in_range me.number me.inserted me.deleted me.seat.me me.rests)

pub returns-in_err-insert_now-clause-same : goal.returns-in_err-insert_now-clause-same
returns-in_err-insert_now-clause-same g c = (refl, refl, c.in_err-insert_now.ensures.same)

pub returns-in_err-insert_now-clause-stamp : goal.returns-in_err-insert_now-clause-stamp
returns-in_err-insert_now-clause-stamp g c = IfOk-from_err c.from_residual.result _ c.from_residual.ensures.0

pub returns-in_err-insert_now-clause-ok : goal.returns-in_err-insert_now-clause-ok
returns-in_err-insert_now-clause-ok g c = IfOk-from_err c.from_residual.result _ c.from_residual.ensures.0

pub returns-in_err-insert_now-clause-adds : goal.returns-in_err-insert_now-clause-adds
returns-in_err-insert_now-clause-adds g c = IfOk-from_err c.from_residual.result _ c.from_residual.ensures.0

pub returns-clause-same : goal.returns-clause-same
returns-clause-same g c = (refl, refl, c.in_ok-insert_now.ensures.same)

pub returns-clause-stamp : goal.returns-clause-stamp
returns-clause-stamp g c = ap (λ (x : Item). x.stamp) c.next_item-item.ensures

pub returns-clause-adds : goal.returns-clause-adds
returns-clause-adds g c =
    let me = c.args.self.now in let es = mine me.seat.me.0 in let es' = mine c.insert_now.new.seat.me.0 in
    let is = c.next_item-item.ensures in
    let item_is = is ∙ ap (λ (stamp : Stamp). stamped c.args.key stamp c.args.load) (sym (ap (λ (x : Item). x.stamp) is)) in
    let gains = inserts_gain g.row.LEVELS c.args.board.now.table.shared.key.k me.number es es' c.next_item-item.result c.in_ok-insert_now.ensures.ok in
    record { inserted_are = gains.inserted_are ∙ ap (λ (x : Item). inserted es ++ x ∷ []) item_is; deleted_are = gains.deleted_are }

pub returns-clause-refused : goal.returns-clause-refused
returns-clause-refused g c = tt

pub returns-clause-spent : goal.returns-clause-spent
returns-clause-spent g c = (λ no. absurd no, λ full. c.if-self.false (sym c.args.self.now.rests.insertions_are ∙ full))

pub returns-in_err-insert_now-clause-refused : goal.returns-in_err-insert_now-clause-refused
returns-in_err-insert_now-clause-refused g c =
    let me = c.args.self.now in let t = me.number in let es = mine me.seat.me.0 in let es' = mine c.insert_now.new.seat.me.0 in
    let board = c.args.board.now in let refused = c.in_err-insert_now.ensures.refused in
    let gains = refused_gains g.row.LEVELS board.table.shared.key.k t es es' _ refused in
    let Spent = length (inserted es) ≡ me.sizes.quota in
    passed_on c.from_residual.result _ _ c.from_residual.ensures.1 (λ why is. (
      record { inserted_are = gains.inserted_are; deleted_are = gains.deleted_are },
      subst (λ (e : TryInsertError). RefusesInsert Spent g.row.LEVELS me.sizes.k t es es' e) (sym is)
          (subst (λ (m : Sizes). RefusesInsert Spent g.row.LEVELS m.k t es es' c.in_err-insert_now.field-0.0) (board.key ∙ sym c.requires.1) (began Spent g.row.LEVELS board.table.shared.key.k t es es' _ refused)),
    ))

pub returns-in_err-insert_now-clause-spent : goal.returns-in_err-insert_now-clause-spent
returns-in_err-insert_now-clause-spent g c =
    let me = c.args.self.now in let es = mine me.seat.me.0 in let es' = mine c.insert_now.new.seat.me.0 in
    let refused = c.in_err-insert_now.ensures.refused in (
      λ spent. absurd (of_error c.from_residual.result _ _ c.from_residual.ensures.1 spent (λ why is no. (subst (λ (e : TryInsertError). RefusesInsert ⊥ g.row.LEVELS c.args.board.now.table.shared.key.k me.number es es' e) (sym is ∙ no) refused).0)),
      λ full. absurd (c.if-self.false (sym me.rests.insertions_are ∙ full)),
    )

pub returns-then-self-clause-holder : goal.returns-then-self-clause-holder
returns-then-self-clause-holder g c busy is = absurd (busy_not_spent busy (sym is))

pub returns-in_err-insert_now-clause-holder : goal.returns-in_err-insert_now-clause-holder
returns-in_err-insert_now-clause-holder g c busy is =
    let me = c.args.self.now in
    of_error c.from_residual.result _ _ c.from_residual.ensures.1 is (λ why same named.
    subst (λ (m : Sizes). MeetsHolder m me.number (rest_of me.seat.me.0) (mine c.insert_now.new.seat.me.0) busy) (c.args.board.now.key ∙ sym c.requires.1)
    (c.in_err-insert_now.ensures.holder busy (sym same ∙ named)))

pub returns-clause-holder : goal.returns-clause-holder
returns-clause-holder g c busy is = absurd is
