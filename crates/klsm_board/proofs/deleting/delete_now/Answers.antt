use Rattle.std.proofs.Common.{◌≡◌, ◌+◌, ◌∷◌, ◌++◌, ◌∙◌, [], ap, refl, sym, subst, inl, inr, append_assoc}
use Rattle.std.specs.Prelude.{MatchOption, Some}
use Rattle.klsm_schedules.specs.declared.step.Entry.TheVariants.{Acquired, Released, Missed}
use Rattle.klsm_board.specs.Steps.{mine, rest_of}
use Rattle.klsm_board.specs.Seats.{own_in_hand}
use Rattle.klsm_board.specs.Entries.{both_looked, own_looked, with_look}
use Rattle.klsm_board.specs.Deleting.{Deletes, FindsNothing, TakesEarly, moving_at_most}
use Rattle.klsm_board.specs.Effects.{committed_in, MeetsHolder, TakesEffect}
use Rattle.klsm_board.proofs.lemmas.calls.AddLemmas.{own_quiet, both_look_quiet}
use Rattle.klsm_board.proofs.lemmas.calls.EffectLemmas.{effect_since}
use Rattle.klsm_board.proofs.lemmas.calls.AddedLemmas.{passed_on}
use Rattle.klsm_board.proofs.lemmas.calls.MissLemmas.{meets}
use Rattle.klsm_board.proofs.lemmas.seats.StandLemmas.{stands}
use Rattle.klsm_board.proofs.lemmas.hands.EventLemmas.{shared_not_in_one}
use Rattle.klsm_board.proofs.deleting.delete_now.Goals as goal

pub delete_early-requires-clause-has : goal.delete_early-requires-clause-has
delete_early-requires-clause-has g c = let own = c.in_ok-try_acquire.ensures.ok [] c.requires.stands in (own.0, own.1)

pub returns-in-Some-clause-has : goal.returns-in-Some-clause-has
returns-in-Some-clause-has g c = let own = c.in_ok-try_acquire.ensures.ok [] c.requires.stands in (c.in-Some.ensures.done own.0 own.1).0

pub returns-in-Some-clause-ok : goal.returns-in-Some-clause-ok
returns-in-Some-clause-ok g c =
    let own = c.in_ok-try_acquire.ensures.ok [] c.requires.stands in let did = c.in-Some.ensures.done own.0 own.1 in
    let early = subst (λ z. TakesEarly c.args.table.now.key c.args.thread own.0 z (mine c.delete_early.new.seat.me.0) c.in-Some.item) own.2 did.1 in
    (own.0, inl (record { front = early.front; may = early.may; skips = early.skips; keeps = early.keeps; steps = early.steps }, refl))

pub try_acquire-requires-2-clause-has : goal.try_acquire-requires-2-clause-has
try_acquire-requires-2-clause-has g c =
    let t = c.args.thread in let own = c.in_ok-try_acquire.ensures.ok [] c.requires.stands in let kept = c.in_default.ensures.done own.0 own.1 in
    (own_in_hand t own.0, stands kept.2, shared_not_in_one t own.0)

pub release_part-requires-clause-has : goal.release_part-requires-clause-has
release_part-requires-clause-has g c =
    let own = c.in_ok-try_acquire.ensures.ok [] c.requires.stands in let kept = c.in_default.ensures.done own.0 own.1 in let busy = c.in-Err.ensures.busy in
    (own.0, [], stands (busy.1 (own_in_hand c.args.thread own.0) (stands kept.2)), refl)

pub returns-in-Err-clause-has : goal.returns-in-Err-clause-has
returns-in-Err-clause-has g c =
    let own = c.in_ok-try_acquire.ensures.ok [] c.requires.stands in let kept = c.in_default.ensures.done own.0 own.1 in let busy = c.in-Err.ensures.busy in
    c.release_part.ensures.released own.0 [] (stands (busy.1 (own_in_hand c.args.thread own.0) (stands kept.2))) refl

pub returns-in-Err-clause-busy : goal.returns-in-Err-clause-busy
returns-in-Err-clause-busy g c =
    let t = c.args.thread in let by = c.in-Err.busy.by in
    let own = c.in_ok-try_acquire.ensures.ok [] c.requires.stands in let kept = c.in_default.ensures.done own.0 own.1 in let busy = c.in-Err.ensures.busy in (
      refl,
      inr (record {
        own = own.0;
        look = kept.0;
        found = kept.1;
        lock = busy.0;
        steps = c.release_part.ensures.list ∙ (ap (λ z. z ++ Released (t + 1) ∷ []) (busy.2 ∙ ap (λ z. z ++ Missed 0 by ∷ []) (kept.3 ∙ ap (with_look kept.0) own.2))
            ∙ append_assoc (own_looked t own.0 kept.0 (mine c.args.seat.now.me.0)) (Missed 0 by ∷ []) (Released (t + 1) ∷ []));
      }),
    )

pub delete_under_both-requires-clause-has : goal.delete_under_both-requires-clause-has
delete_under_both-requires-clause-has g c =
    let own = c.in_ok-try_acquire.ensures.ok [] c.requires.stands in let kept = c.in_default.ensures.done own.0 own.1 in
    let shared = c.in_default-try_acquire.ensures.ok (own_in_hand c.args.thread own.0) (stands kept.2) in
    (own.0, shared.0, shared.1)

pub returns-clause-ok : goal.returns-clause-ok
returns-clause-ok g c =
    let m = moving_at_most c.args.refill c.args.table.now.key in let t = c.args.thread in let es = mine c.args.seat.now.me.0 in
    let own = c.in_ok-try_acquire.ensures.ok [] c.requires.stands in let kept = c.in_default.ensures.done own.0 own.1 in
    let shared = c.in_default-try_acquire.ensures.ok (own_in_hand t own.0) (stands kept.2) in
    let acquired : mine c.try_acquire-2.new.seat.me.0 ≡ both_looked t own.0 kept.0 shared.0 es = shared.2 ∙ ap (λ z. z ++ Acquired 0 shared.0 ∷ []) (kept.3 ∙ ap (with_look kept.0) own.2) in
    let did = c.delete_under_both in let es' = mine did.new.seat.me.0 in (
      own.0,
      inr (
        shared.0,
        kept.0,
        kept.1,
        subst
            (λ z. MatchOption did.result (FindsNothing m t own.0 shared.0 z es' × (did.new.picker ≡ c.args.picker.now)) (Deletes g.P.Picker.may_pick c.args.picker.now did.new.picker m t own.0 shared.0 z es'))
            acquired (did.ensures.done own.0 shared.0 shared.1),
      ),
    )

pub returns-in-Some-clause-effect : goal.returns-in-Some-clause-effect
returns-in-Some-clause-effect g c =
    let m = c.args.table.now.key in let t = c.args.thread in let es = mine c.args.seat.now.me.0 in let me1 = c.try_acquire.new.seat.me in let es' = mine c.delete_early.new.seat.me.0 in
    let own = c.in_ok-try_acquire.ensures.ok [] c.requires.stands in
    effect_since m t (rest_of c.args.seat.now.me.0) es (mine me1.0) es' (Some c.in-Some.item) (ap committed_in own.2 ∙ own_quiet t own.0 es)
    (subst (λ z. TakesEffect m t z (mine me1.0) es' (Some c.in-Some.item)) c.try_acquire.ensures.others c.in-Some.ensures.effect)

pub returns-clause-effect : goal.returns-clause-effect
returns-clause-effect g c =
    let m = c.args.table.now.key in let t = c.args.thread in let es = mine c.args.seat.now.me.0 in
    let own = c.in_ok-try_acquire.ensures.ok [] c.requires.stands in let kept = c.in_default.ensures.done own.0 own.1 in
    let shared = c.in_default-try_acquire.ensures.ok (own_in_hand t own.0) (stands kept.2) in
    let me2 = c.try_acquire-2.new.seat.me in let did = c.delete_under_both in let es' = mine did.new.seat.me.0 in
    let acquired : mine me2.0 ≡ both_looked t own.0 kept.0 shared.0 es = shared.2 ∙ ap (λ z. z ++ Acquired 0 shared.0 ∷ []) (kept.3 ∙ ap (with_look kept.0) own.2) in
    effect_since m t (rest_of c.args.seat.now.me.0) es (mine me2.0) es' did.result (ap committed_in acquired ∙ both_look_quiet t own.0 kept.0 shared.0 es)
    (subst (λ z. TakesEffect m t z (mine me2.0) es' did.result) (c.try_acquire-2.ensures.others ∙ (c.delete_early.ensures.others ∙ c.try_acquire.ensures.others)) did.ensures.effect)

pub returns-in_err-try_acquire-clause-has : goal.returns-in_err-try_acquire-clause-has
returns-in_err-try_acquire-clause-has g c = c.in_err-try_acquire.ensures.busy.1 [] c.requires.stands

pub returns-in_err-try_acquire-clause-holder : goal.returns-in_err-try_acquire-clause-holder
returns-in_err-try_acquire-clause-holder g c =
    let m = c.args.table.now.key in let t = c.args.thread in let me = c.args.seat.now.me in let es' = mine c.try_acquire.new.seat.me.0 in
    let told = c.in_err-try_acquire.ensures in let busy = c.in_err-try_acquire.field-0.0 in let carries = c.requires.stands.carries in
    passed_on c.from_residual.result _ _ c.from_residual.ensures.1 (λ why is.
    subst (MeetsHolder m t (rest_of me.0) es') (sym is) (meets m t (t + 1) me.0 es' [] busy carries.acts told.busy.0 told.holder told.busy.2))

pub returns-in-Err-clause-holder : goal.returns-in-Err-clause-holder
returns-in-Err-clause-holder g c =
    let m = c.args.table.now.key in let t = c.args.thread in let me = c.delete_early.new.seat.me in let es' = mine c.release_part.new.seat.me.0 in
    let own = c.in_ok-try_acquire.ensures.ok [] c.requires.stands in let kept = (c.in_default.ensures.done own.0 own.1).2 in let carries = kept.carries in
    let told = c.in-Err.ensures in let busy = c.in-Err.busy in
    let steps = c.release_part.ensures.list ∙ (ap (λ z. z ++ Released (t + 1) ∷ []) told.busy.2 ∙ append_assoc (mine me.0) (Missed 0 busy.by ∷ []) (Released (t + 1) ∷ [])) in
    subst (λ z. MeetsHolder m t z es' busy) (c.delete_early.ensures.others ∙ c.try_acquire.ensures.others)
    (meets m t 0 me.0 es' (Released (t + 1) ∷ []) busy carries.acts told.busy.0 told.holder steps)
