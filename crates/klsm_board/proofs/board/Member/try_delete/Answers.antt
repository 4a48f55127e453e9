use Rattle.std.proofs.Common.{◌≡◌, ◌+◌, ◌∙◌, [], length, sym, subst, arith}
use Rattle.std.specs.Option.{option_to_list}
use Rattle.klsm_schedules.specs.OwnSteps.{inserted, deleted}
use Rattle.klsm_parts.proofs.FitLemmas.{local_fits, shared_fits}
use Rattle.klsm_board.specs.Deleting.{AnswersDeletion, MissesDeletion, moving_at_most}
use Rattle.klsm_board.specs.Effects.{MeetsHolder}
use Rattle.klsm_board.specs.Steps.{mine, rest_of}
use Rattle.klsm_board.specs.declared.errors.Busy.{Busy}
use Rattle.klsm_board.specs.declared.sizes.Sizes.{Sizes}
use Rattle.klsm_board.specs.Seats.{Has}
use Rattle.klsm_board.specs.Slots.{slot_content, IsSlotOf}
use Rattle.klsm_board.proofs.lemmas.seats.RestLemmas.{rests_after}
use Rattle.klsm_board.specs.Boards.{Gains}
use Rattle.klsm_board.proofs.lemmas.calls.AddedLemmas.{gained_counts, passed_on}
use Rattle.klsm_board.proofs.lemmas.calls.DeletedLemmas.{answers_gain, some_is_one, none_is_zero, misses_gain}
use Rattle.klsm_board.proofs.board.Member.try_delete.Goals as goal

pub invariant_of-self-then-is_some : goal.invariant_of-self-then-is_some
invariant_of-self-then-is_some g c =
    let me = c.args.self.now in let t = me.number in let es = mine me.seat.me.0 in let did = c.delete_now in let es' = mine did.new.seat.me.0 in
    let rests = me.rests in let board = c.args.board.now in let same = board.key ∙ sym c.requires.1 in
    let ok = c.in_ok-answer.ensures.ok in let answer = c.in_ok-answer.answer in
    let gains : Gains es es' [] (option_to_list answer) = answers_gain g.P.Picker.may_pick c.args.picker.now did.new.picker (moving_at_most c.args.refill board.table.shared.key) t es es' answer ok in
    let counts = gained_counts es es' [] (option_to_list answer) me.inserted me.deleted gains rests.insertions_are rests.deletions_are in
    let many = some_is_one answer (sym c.is_some.ensures ∙ c.if-is_some.true) in
    let first : length (inserted es') ≡ me.inserted = omega (arith, counts.0) in let second : length (deleted es') ≡ me.deleted + 1 = omega (arith, counts.1, many) in
    record { rests = rests_after g.row.CAP me.sizes me.in_range t me.inserted (me.deleted + 1) did.new.seat.me (subst (λ m. Has slot_content IsSlotOf m t [] did.new.seat.me) same c.in_ok-answer.ensures.has) first second; in_range = me.in_range; capacity = me.capacity; levels = me.levels }

pub invariant_of-self-else-is_some : goal.invariant_of-self-else-is_some
invariant_of-self-else-is_some g c =
    let me = c.args.self.now in let t = me.number in let es = mine me.seat.me.0 in let did = c.delete_now in let es' = mine did.new.seat.me.0 in
    let rests = me.rests in let board = c.args.board.now in let same = board.key ∙ sym c.requires.1 in
    let ok = c.in_ok-answer.ensures.ok in let answer = c.in_ok-answer.answer in
    let gains : Gains es es' [] (option_to_list answer) = answers_gain g.P.Picker.may_pick c.args.picker.now did.new.picker (moving_at_most c.args.refill board.table.shared.key) t es es' answer ok in
    let counts = gained_counts es es' [] (option_to_list answer) me.inserted me.deleted gains rests.insertions_are rests.deletions_are in
    let many = none_is_zero answer (sym c.is_some.ensures ∙ c.if-is_some.false) in
    let first : length (inserted es') ≡ me.inserted = omega (arith, counts.0) in let second : length (deleted es') ≡ me.deleted = omega (arith, counts.1, many) in
    record { rests = rests_after g.row.CAP me.sizes me.in_range t me.inserted (me.deleted) did.new.seat.me (subst (λ m. Has slot_content IsSlotOf m t [] did.new.seat.me) same c.in_ok-answer.ensures.has) first second; in_range = me.in_range; capacity = me.capacity; levels = me.levels }

pub returns-then-is_some-clause-adds : goal.returns-then-is_some-clause-adds
returns-then-is_some-clause-adds g c =
    let me = c.args.self.now in let t = me.number in let es = mine me.seat.me.0 in let did = c.delete_now in let es' = mine did.new.seat.me.0 in
    let rests = me.rests in let board = c.args.board.now in let same = board.key ∙ sym c.requires.1 in
    let ok = c.in_ok-answer.ensures.ok in let answer = c.in_ok-answer.answer in
    let gains : Gains es es' [] (option_to_list answer) = answers_gain g.P.Picker.may_pick c.args.picker.now did.new.picker (moving_at_most c.args.refill board.table.shared.key) t es es' answer ok in
    record { inserted_are = gains.inserted_are; deleted_are = gains.deleted_are }

pub returns-else-is_some-clause-adds : goal.returns-else-is_some-clause-adds
returns-else-is_some-clause-adds g c =
    let me = c.args.self.now in let t = me.number in let es = mine me.seat.me.0 in let did = c.delete_now in let es' = mine did.new.seat.me.0 in
    let rests = me.rests in let board = c.args.board.now in let same = board.key ∙ sym c.requires.1 in
    let ok = c.in_ok-answer.ensures.ok in let answer = c.in_ok-answer.answer in
    let gains : Gains es es' [] (option_to_list answer) = answers_gain g.P.Picker.may_pick c.args.picker.now did.new.picker (moving_at_most c.args.refill board.table.shared.key) t es es' answer ok in
    record { inserted_are = gains.inserted_are; deleted_are = gains.deleted_are }

pub invariant_of-self : goal.invariant_of-self
invariant_of-self g c =
    let me = c.args.self.now in let t = me.number in let es = mine me.seat.me.0 in let did = c.delete_now in let es' = mine did.new.seat.me.0 in
    let rests = me.rests in let board = c.args.board.now in let same = board.key ∙ sym c.requires.1 in
    let busy = c.in_err-answer.ensures.busy in
    let gains = misses_gain t es es' _ busy.1 in
    let counts = gained_counts es es' [] [] me.inserted me.deleted gains rests.insertions_are rests.deletions_are in
    let first : length (inserted es') ≡ me.inserted = omega (arith, counts.0) in let second : length (deleted es') ≡ me.deleted = omega (arith, counts.1) in
    record { rests = rests_after g.row.CAP me.sizes me.in_range t me.inserted me.deleted did.new.seat.me (subst (λ m. Has slot_content IsSlotOf m t [] did.new.seat.me) same c.in_err-answer.ensures.has) first second; in_range = me.in_range; capacity = me.capacity; levels = me.levels }

pub returns-in_err-answer-clause-busy : goal.returns-in_err-answer-clause-busy
returns-in_err-answer-clause-busy g c =
    let me = c.args.self.now in let t = me.number in let es = mine me.seat.me.0 in let es' = mine c.delete_now.new.seat.me.0 in
    let told = c.in_err-answer.ensures.busy in
    let gains = misses_gain t es es' _ told.1 in
    passed_on c.from_residual.result _ _ c.from_residual.ensures.1 (λ why is. (
      record { inserted_are = gains.inserted_are; deleted_are = gains.deleted_are },
      told.0,
      subst (MissesDeletion t es es') (sym is) told.1,
    ))

pub returns-in_err-answer-clause-holder : goal.returns-in_err-answer-clause-holder
returns-in_err-answer-clause-holder g c =
    let me = c.args.self.now in let es' = mine c.delete_now.new.seat.me.0 in let same = c.args.board.now.key ∙ sym c.requires.1 in
    passed_on c.from_residual.result _ _ c.from_residual.ensures.1 (λ why is.
    subst (λ (z : Sizes × Busy). MeetsHolder z.0 me.number (rest_of me.seat.me.0) es' z.1) (λ i. (same i, sym is i)) c.in_err-answer.ensures.holder)

pub delete_now-requires-room-S-PartSlot : goal.delete_now-requires-room-S-PartSlot
delete_now-requires-room-S-PartSlot g c κs within = local_fits _ c.args.self.now.capacity

pub delete_now-requires-room-S-PartSlot-2 : goal.delete_now-requires-room-S-PartSlot-2
delete_now-requires-room-S-PartSlot-2 g c κs within = shared_fits _ c.args.self.now.levels

pub delete_now-requires-room-S-Holding : goal.delete_now-requires-room-S-Holding
delete_now-requires-room-S-Holding g c κs within = local_fits _ c.args.self.now.capacity

pub delete_now-requires-room-S-Holding-2 : goal.delete_now-requires-room-S-Holding-2
delete_now-requires-room-S-Holding-2 g c κs within = shared_fits _ c.args.self.now.levels

pub delete_now-requires-room-S-Destruct : goal.delete_now-requires-room-S-Destruct
delete_now-requires-room-S-Destruct g c κs within = shared_fits _ c.args.self.now.levels

pub returns-then-is_some-clause-ok : goal.returns-then-is_some-clause-ok
returns-then-is_some-clause-ok g c =
    let me = c.args.self.now in let same = c.args.board.now.key ∙ sym c.requires.1 in let did = c.delete_now in
    subst (λ (m : Sizes). AnswersDeletion g.P.Picker.may_pick c.args.picker.now did.new.picker (moving_at_most c.args.refill m) me.number (mine me.seat.me.0) (mine did.new.seat.me.0) c.in_ok-answer.answer) same c.in_ok-answer.ensures.ok

pub returns-else-is_some-clause-ok : goal.returns-else-is_some-clause-ok
returns-else-is_some-clause-ok g c =
    let me = c.args.self.now in let same = c.args.board.now.key ∙ sym c.requires.1 in let did = c.delete_now in
    subst (λ (m : Sizes). AnswersDeletion g.P.Picker.may_pick c.args.picker.now did.new.picker (moving_at_most c.args.refill m) me.number (mine me.seat.me.0) (mine did.new.seat.me.0) c.in_ok-answer.answer) same c.in_ok-answer.ensures.ok
