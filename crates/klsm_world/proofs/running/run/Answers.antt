use Rattle.std.specs.Option.{option_to_list}
use Rattle.std.proofs.Common.{◌≡◌, ◌∙◌, ap, sym, subst, List, max, ◌+◌, ◌++◌, refl}
use Rattle.std.proofs.lemmas.Result.{IfOk-from_err}
use Rattle.klsm_run.specs.declared.item.Item.{Item}
use Rattle.klsm_world.specs.Refusals.{Refuses}
use Rattle.klsm_world.specs.WorldView.{WorldView}
use Rattle.klsm_schedules.specs.Schedules.{MayStep, next}
use Rattle.klsm_world.specs.Traces.{IsTrace}
use Rattle.klsm_schedules.specs.Worlds.{Limits, first_world, limits_of}
use Rattle.klsm_world.proofs.lemmas.traces.StartLemmas.{are_limits, run_lacks_memory, run_not_started}
use Rattle.klsm_world.proofs.lemmas.traces.TraceLemmas.{HasRun, has_run_more}
use Rattle.klsm_world.proofs.lemmas.traces.TraceEndLemmas.{trace_of_run, refused_by_step, greater_of}
use Rattle.klsm_world.proofs.running.run.Goals as goal

pub returns-in-Err : goal.returns-in-Err
returns-in-Err g c =
    let limits : Limits = limits_of c.args.threads c.args.k in
    let step = c.index-steps-index.result in
    let refuses : Refuses limits c.loop-index.world.world step c.in-Err.why =
    subst (λ (l : Limits). Refuses l c.loop-index.world.world step c.in-Err.why) {y = limits} c.loop-index.invariant.limits c.in-Err.ensures.refused in
    record {
      trace = tt;
      refused = refused_by_step limits c.args.steps.now c.loop-index.index c.loop-index.world.world step c.in-Err.why c.refused_at.result
          c.loop-index.invariant.limits_are c.loop-index.invariant.run.leads c.loop-index-test.true c.index-steps-index.is refuses c.refused_at.ensures.no_memory c.refused_at.ensures.at_step;
    }

pub loop-index-preserved : goal.loop-index-preserved
loop-index-preserved g c =
    let limits : Limits = limits_of c.args.threads c.args.k in
    let steps = c.args.steps.now in
    let count = c.loop-index.index in
    let before = c.loop-index.world in
    let after = c.step.new.self in
    let step = c.index-steps-index.result in
    let taken = c.in_default.ensures.taken in
    let may : MayStep limits before.world step = subst (λ (l : Limits). MayStep l before.world step) c.loop-index.invariant.limits taken.0 in
    let led : after.world ≡ next before.world step = ap (λ (r : WorldView). r.world) taken.1 in
    let skips = c.max-most.ensures ∙ (greater_of c.loop-index.most c.skip_of-skip.result ∙ ap (max c.loop-index.most) c.skip_of-skip.ensures) in
    let run = has_run_more limits steps count before.world after.world step c.loop-index.inserted.items c.loop-index.deleted.items _ _ c.loop-index.most c.max-most.result
    c.loop-index.invariant.run c.loop-index-test.true c.index-steps-index.is may led c.inserted_item.ensures c.deleted_item.ensures skips in
    let inserted = c.push_some.new.items.items in
    record {
      limits = ap (λ (r : WorldView). r.limits) taken.1 ∙ c.loop-index.invariant.limits;
      limits_are = c.loop-index.invariant.limits_are;
      run = subst (λ (d : List Item). HasRun limits steps (count + 1) after.world inserted d c.max-most.result) (sym c.in_ok-push_some-2.ensures.pushed)
          (subst (λ (i : List Item). HasRun limits steps (count + 1) after.world i (c.loop-index.deleted.items ++ option_to_list c.deleted_item.result) c.max-most.result) (sym c.in_ok-push_some.ensures.pushed) run);
    }

pub returns-clause-trace : goal.returns-clause-trace
returns-clause-trace g c =
    let limits : Limits = limits_of c.args.threads c.args.k in
    let trace : IsTrace limits c.args.steps.now c.loop-index.inserted.items c.loop-index.deleted.items c.loop-index.most c.in_ok-live.live =
    trace_of_run limits c.args.steps.now c.loop-index.index c.loop-index.world.world _ _ _ _ c.loop-index.invariant.limits_are c.loop-index.invariant.run c.loop-index-test.false c.in_ok-live.ensures.live in
    subst (λ (d : List Item). IsTrace limits c.args.steps.now c.new-2.result d c.loop-index.most c.in_ok-live.live) (sym c.new-3.ensures)
    (subst (λ (i : List Item). IsTrace limits c.args.steps.now i c.loop-index.deleted.items c.loop-index.most c.in_ok-live.live) (sym c.new-2.ensures) trace)

pub returns-in_err-world-clause-refused : goal.returns-in_err-world-clause-refused
returns-in_err-world-clause-refused g c =
    let limits : Limits = limits_of c.args.threads c.args.k in
    run_not_started limits c.args.steps.now _ _ c.from_residual.ensures.1 c.in_err-world.ensures.bad_threads c.in_err-world.ensures.bad_k c.in_err-world.ensures.no_step

pub loop-index-init : goal.loop-index-init
loop-index-init g c =
    let limits : Limits = limits_of c.args.threads c.args.k in
    let made : c.in_ok-world.world ≡ record { limits = limits; world = first_world limits } = c.in_ok-world.ensures.made in
    record {
      limits = ap (λ (r : WorldView). r.limits) made;
      limits_are = are_limits limits c.in_ok-world.ensures.bad_threads.1 c.in_ok-world.ensures.bad_k.1;
      run = record { leads = ap (λ (r : WorldView). r.world) made; inserted_are = c.new-inserted.ensures.items; deleted_are = c.new-deleted.ensures.items; most_is = refl };
    }

pub returns-in_err-push_some-clause-refused : goal.returns-in_err-push_some-clause-refused
returns-in_err-push_some-clause-refused g c =
    run_lacks_memory _ c.args.steps.now _ _ c.from_residual-in_err-push_some.ensures.1 c.in_err-push_some.ensures.refused c.loop-index.invariant.limits_are

pub returns-in_err-push_some-2-clause-refused : goal.returns-in_err-push_some-2-clause-refused
returns-in_err-push_some-2-clause-refused g c =
    run_lacks_memory _ c.args.steps.now _ _ c.from_residual-in_err-push_some-2.ensures.1 c.in_err-push_some-2.ensures.refused c.loop-index.invariant.limits_are

pub returns-in_err-live-clause-refused : goal.returns-in_err-live-clause-refused
returns-in_err-live-clause-refused g c =
    run_lacks_memory _ c.args.steps.now _ _ c.from_residual-in_err-live.ensures.1 c.in_err-live.ensures.refused c.loop-index.invariant.limits_are

pub returns-in_err-world-clause-trace : goal.returns-in_err-world-clause-trace
returns-in_err-world-clause-trace g c = IfOk-from_err c.from_residual.result _ c.from_residual.ensures.0

pub returns-in_err-push_some-clause-trace : goal.returns-in_err-push_some-clause-trace
returns-in_err-push_some-clause-trace g c = IfOk-from_err c.from_residual-in_err-push_some.result _ c.from_residual-in_err-push_some.ensures.0

pub returns-in_err-push_some-2-clause-trace : goal.returns-in_err-push_some-2-clause-trace
returns-in_err-push_some-2-clause-trace g c = IfOk-from_err c.from_residual-in_err-push_some-2.result _ c.from_residual-in_err-push_some-2.ensures.0

pub returns-in_err-live-clause-trace : goal.returns-in_err-live-clause-trace
returns-in_err-live-clause-trace g c = IfOk-from_err c.from_residual-in_err-live.result _ c.from_residual-in_err-live.ensures.0
