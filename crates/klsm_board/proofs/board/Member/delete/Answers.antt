use Rattle.std.proofs.Common.{ℕ, List, ◌∙◌, [], subst, ◌≤◌}
use Rattle.std.specs.Option.{option_to_list}
use Rattle.klsm_parts.proofs.FitLemmas.{local_fits, shared_fits}
use Rattle.klsm_board.specs.declared.rule.Own.{Own}
use Rattle.klsm_board.specs.declared.sizes.Sizes.{Sizes}
use Rattle.klsm_board.specs.Boards.{known_of_others, own_steps}
use Rattle.klsm_board.specs.Deleting.{AnswersDeletion, LooksInVain, MissesDeletion, moving_at_most}
use Rattle.klsm_board.specs.Effects.{TakesEffect}
use Rattle.klsm_board.proofs.lemmas.calls.EffectLemmas.{effect_since}
use Rattle.klsm_board.proofs.lemmas.calls.MissLemmas.{waits_quiet, waits_more}
use Rattle.klsm_board.proofs.lemmas.calls.WaitLemmas.{same_then, adds_then, lock_in_range, lock_in_table, lock_missed}
use Rattle.klsm_board.proofs.board.Member.delete.Goals as goal

pub unreachable-unreachable : goal.unreachable-unreachable
unreachable-unreachable g c = c.unreachable.type_inv

pub returns-in-Ok-clause-ok : goal.returns-in-Ok-clause-ok
returns-in-Ok-clause-ok g c =
    let now = c.loop.self in let inv = c.loop.invariant in let new = c.try_delete.new in (
      own_steps now,
      inv.waits,
      subst (λ p. AnswersDeletion g.P.Picker.may_pick p new.picker (moving_at_most c.args.refill c.args.self.now.sizes) c.args.self.now.number (own_steps now) (own_steps new.self) c.in-Ok.answer) inv.picker
          (subst (λ (z : Sizes × ℕ). AnswersDeletion g.P.Picker.may_pick c.loop.picker new.picker (moving_at_most c.args.refill z.0) z.1 (own_steps now) (own_steps new.self) c.in-Ok.answer) (λ i. (inv.same.1 i, inv.same.0 i)) c.in-Ok.ensures.ok),
    )

pub returns-in-Ok-clause-effect : goal.returns-in-Ok-clause-effect
returns-in-Ok-clause-effect g c =
    let me = c.args.self.now in let now = c.loop.self in let inv = c.loop.invariant in let es' = own_steps c.try_delete.new.self in
    effect_since me.sizes me.number (known_of_others me) (own_steps me) (own_steps now) es' c.in-Ok.answer (waits_quiet me.number _ (own_steps me) (own_steps now) inv.waits)
    (subst (λ (z : Sizes × ℕ × List Own). TakesEffect z.0 z.1 z.2 (own_steps now) es' c.in-Ok.answer) (λ i. (inv.same.1 i, inv.same.0 i, inv.others i)) c.in-Ok.ensures.effect)

pub returns-in-Ok-clause-adds : goal.returns-in-Ok-clause-adds
returns-in-Ok-clause-adds g c =
    let me = c.args.self.now in let now = c.loop.self in let inv = c.loop.invariant in
    adds_then me now c.try_delete.new.self [] (option_to_list c.in-Ok.answer) (waits_quiet me.number _ (own_steps me) (own_steps now) inv.waits) c.in-Ok.ensures.adds

pub wait-requires-clause-part : goal.wait-requires-clause-part
wait-requires-clause-part g c =
    let now = c.loop.self in let busy = c.in-Err.busy in
    let part : busy.lock ≤ now.sizes.threads = (lock_missed now.number now.sizes.threads LooksInVain (own_steps now) (own_steps c.try_delete.new.self) busy now.rests.thread c.in-Err.ensures.busy.2) in
    lock_in_range c.args.board.now c.args.self.now now c.requires c.loop.invariant.same busy.lock part

pub wait-requires-clause-within : goal.wait-requires-clause-within
wait-requires-clause-within g c =
    let now = c.loop.self in let busy = c.in-Err.busy in
    let part : busy.lock ≤ now.sizes.threads = (lock_missed now.number now.sizes.threads LooksInVain (own_steps now) (own_steps c.try_delete.new.self) busy now.rests.thread c.in-Err.ensures.busy.2) in
    lock_in_table c.args.board.now c.args.self.now now c.requires c.loop.invariant.same busy.lock part _ c.loop.invariant.words

pub wait-requires-room-W-Waiter : goal.wait-requires-room-W-Waiter
wait-requires-room-W-Waiter g c κs within = local_fits _ c.args.self.now.capacity

pub wait-requires-room-W-Waiter-2 : goal.wait-requires-room-W-Waiter-2
wait-requires-room-W-Waiter-2 g c κs within = shared_fits _ c.args.self.now.levels

pub on-pause-requires-room-S-Holding : goal.on-pause-requires-room-S-Holding
on-pause-requires-room-S-Holding g c κs within = local_fits _ c.args.self.now.capacity

pub on-pause-requires-room-S-Holding-2 : goal.on-pause-requires-room-S-Holding-2
on-pause-requires-room-S-Holding-2 g c κs within = shared_fits _ c.args.self.now.levels

pub loop-preserved : goal.loop-preserved
loop-preserved g c =
    let me = c.args.self.now in let now = c.loop.self in let inv = c.loop.invariant in let new = c.try_delete.new.self in let busy = c.in-Err.ensures.busy in
    record {
      same = same_then me now new inv.same c.in-Err.ensures.same;
      others = c.in-Err.ensures.others ∙ inv.others;
      waits = waits_more me.number LooksInVain (own_steps me) (own_steps now) (own_steps new) c.in-Err.busy inv.waits (subst (λ n. MissesDeletion n (own_steps now) (own_steps new) c.in-Err.busy) inv.same.0 busy.2);
      picker = busy.1 ∙ inv.picker;
      words = c.wait.ensures.words ∙ inv.words;
    }
