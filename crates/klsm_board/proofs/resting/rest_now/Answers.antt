use Rattle.std.proofs.Common.{◌+◌, ◌∷◌, ◌++◌, ◌∙◌, [], ap, sym, subst, inr, refl}
use Rattle.klsm_board.specs.Effects.{MeetsHolder}
use Rattle.klsm_board.specs.Entries.{own_marked}
use Rattle.klsm_board.specs.Resting.{MissesRest}
use Rattle.klsm_board.specs.Steps.{mine, rest_of}
use Rattle.klsm_board.proofs.lemmas.calls.AddedLemmas.{passed_on}
use Rattle.klsm_board.proofs.lemmas.calls.MissLemmas.{meets}
use Rattle.klsm_schedules.specs.OwnSteps.{no_key}
use Rattle.klsm_schedules.specs.declared.step.Entry.TheVariants.{Missed}
use Rattle.klsm_board.proofs.resting.rest_now.Goals as goal

pub release_marked-requires-clause-carries : goal.release_marked-requires-clause-carries
release_marked-requires-clause-carries g c =
    let own = c.in_ok-try_acquire.ensures.ok [] c.requires.stands in let has = own.1 in (own.0, has.carries, has.hand_is)

pub release_marked-requires-clause-key : goal.release_marked-requires-clause-key
release_marked-requires-clause-key g c = inr refl

pub returns-clause-has : goal.returns-clause-has
returns-clause-has g c =
    let own = c.in_ok-try_acquire.ensures.ok [] c.requires.stands in let has = own.1 in c.release_marked.ensures.has

pub returns-clause-ok : goal.returns-clause-ok
returns-clause-ok g c =
    let own = c.in_ok-try_acquire.ensures.ok [] c.requires.stands in
    (own.0, c.release_marked.ensures.list ∙ ap (λ z. z ++ own_marked c.args.thread no_key) own.2)

pub returns-in_err-try_acquire-clause-has : goal.returns-in_err-try_acquire-clause-has
returns-in_err-try_acquire-clause-has g c = c.in_err-try_acquire.ensures.busy.1 [] c.requires.stands

pub returns-in_err-try_acquire-clause-busy : goal.returns-in_err-try_acquire-clause-busy
returns-in_err-try_acquire-clause-busy g c =
    let t = c.args.thread in let es = mine c.args.seat.now.me.0 in let es' = mine c.try_acquire.new.seat.me.0 in
    let told = c.in_err-try_acquire.ensures in let busy = c.in_err-try_acquire.field-0.0 in
    passed_on c.from_residual.result _ _ c.from_residual.ensures.1 (λ why is.
    subst (MissesRest t es es') (sym is) (told.busy.0, told.busy.2 ∙ ap (λ p. es ++ Missed p busy.by ∷ []) (sym told.busy.0)))

pub returns-in_err-try_acquire-clause-holder : goal.returns-in_err-try_acquire-clause-holder
returns-in_err-try_acquire-clause-holder g c =
    let m = c.args.table.now.key in let t = c.args.thread in let me = c.args.seat.now.me in let es' = mine c.try_acquire.new.seat.me.0 in
    let told = c.in_err-try_acquire.ensures in let busy = c.in_err-try_acquire.field-0.0 in let carries = c.requires.stands.carries in
    passed_on c.from_residual.result _ _ c.from_residual.ensures.1 (λ why is.
    subst (MeetsHolder m t (rest_of me.0) es') (sym is) (meets m t (t + 1) me.0 es' [] busy carries.acts told.busy.0 told.holder told.busy.2))
