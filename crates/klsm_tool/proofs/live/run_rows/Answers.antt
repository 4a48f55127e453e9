use Rattle.std.proofs.Common.{◌≡◌, ◌<◌, ◌∙◌, ℕ, Bool, List, map, length, slice_index_or, Option, Some, None, refl, sym, ap, subst, arith}
use Rattle.klsm_board.specs.declared.sizes.Sizes.{Sizes}
use Rattle.klsm_text.specs.declared.stop.Stop.{Stop}
use Rattle.klsm_text.specs.declared.stop.Stop.TheVariants as stop
use Rattle.klsm_text.specs.Keeping.{kept_for}
use Rattle.klsm_text.specs.Script.{row_limit}
use Rattle.klsm_text.proofs.KeepingLemmas.{few_kept}
use Rattle.klsm_tool.specs.declared.worker.Worker.{Worker}
use Rattle.klsm_tool.specs.Live.{HasNoTotals}
use Rattle.klsm_tool.specs.Working.{HasRunAt, gave_up_at}
use Rattle.klsm_tool.proofs.PlaceLemmas.{all_back, finished, room_was_there}
use Rattle.klsm_tool.proofs.TotalLemmas.{accepted_few}
use Rattle.klsm_tool.proofs.live.run_rows.Goals as goal

-- of want of memory nothing is said
none_run : (failed : Bool) (threads number : ℕ) (input : Option (List ℕ)) (why : Stop) → why ≡ stop.NoMemory → HasNoTotals failed threads input number why
none_run failed threads number input why is = subst (HasNoTotals failed threads input number) (sym is) tt

pub returns-in_default-clause-runs : goal.returns-in_default-clause-runs
returns-in_default-clause-runs g c = λ failed input _ _ _ _. none_run failed c.args.settings.now.threads _ input _ c.at.ensures.stop

pub returns-in_default-run_members-clause-runs : goal.returns-in_default-run_members-clause-runs
returns-in_default-run_members-clause-runs g c = λ failed input _ _ _ _. none_run failed c.args.settings.now.threads _ input _ c.at-in_default-run_members.ensures.stop

pub returns-in-Some-clause-runs : goal.returns-in-Some-clause-runs
returns-in-Some-clause-runs g c = λ failed input _ _ _ _. none_run failed c.args.settings.now.threads _ input _ (c.at-in-Some.ensures.stop ∙ c.cause_in_one_hand-cause.ensures)

pub run_members-requires-clause-some : goal.run_members-requires-clause-some
run_members-requires-clause-some g c = λ _ _. omega (arith, c.in-Ok.ensures.count, c.requires.some_thread)

pub run_members-requires-clause-many : goal.run_members-requires-clause-many
run_members-requires-clause-many g c = λ _ _. c.requires.many ∙ sym c.in-Ok.ensures.count

pub run_members-requires-clause-few : goal.run_members-requires-clause-few
run_members-requires-clause-few g c =
    let threads = c.args.settings.now.threads in let script = c.requires.script in
    λ _ _. few_kept threads row_limit script.0 (map (λ list. list.items) c.args.rows.now) script.2 (accepted_few threads script.0 script.1)

pub run_members-requires-clause-quota : goal.run_members-requires-clause-quota
run_members-requires-clause-quota g c = λ _ _. omega (arith, ap (λ (m : Sizes). m.quota) c.in-Ok.ensures.sizes)

pub cause_in_one_hand-cause-requires-clause-crew : goal.cause_in_one_hand-cause-requires-clause-crew
cause_in_one_hand-cause-requires-clause-crew g c =
    let told = c.in-Ok-run_members.ensures in
    (all_back c.args.settings.now c.in-Ok.board (kept_for (map (λ list. list.items) c.args.rows.now)) c.in-Ok-run_members.crew.items
    (told.many ∙ (c.in-Ok.ensures.count ∙ sym (ap (λ (m : Sizes). m.threads) c.in-Ok.ensures.sizes))) told.ran).0

pub cause_in_one_hand-cause-requires-clause-room : goal.cause_in_one_hand-cause-requires-clause-room
cause_in_one_hand-cause-requires-clause-room g c = λ room at_end.
    let crew = c.in-Ok-run_members.crew.items in let told = c.in-Ok-run_members.ensures in let script = c.requires.script in
    let many : length crew ≡ c.args.settings.now.threads = told.many ∙ c.in-Ok.ensures.count in
    let first = c.in-Some.ensures.some in let whole : c.as_slice.result.now ≡ crew = c.as_slice.ensures.value in
    let within : first.0 < length crew = subst (λ (z : List (Option Worker)). first.0 < length z) whole first.1 in
    let here : gave_up_at (slice_index_or crew first.0 None) ≡ Some c.in-Some.want = subst (λ (z : List (Option Worker)). gave_up_at (slice_index_or z first.0 None) ≡ Some c.in-Some.want) whole (first.2 None) in
    room_was_there c.args.settings.now script.0 script.1 c.in-Ok.board c.in-Ok.ensures.sizes crew many
    (λ t d below. subst (λ asked. HasRunAt c.args.settings.now c.in-Ok.board t asked (slice_index_or crew t d)) (script.2.each t (omega (arith, below, many))) (told.ran t d below))
    c.in-Some.want first.0 (omega (arith, within, many)) c.requires.k here room at_end

pub finish-requires : goal.finish-requires
finish-requires g c =
    let told = c.in-Ok-run_members.ensures in
    let all = all_back c.args.settings.now c.in-Ok.board (kept_for (map (λ list. list.items) c.args.rows.now)) c.in-Ok-run_members.crew.items
    (told.many ∙ (c.in-Ok.ensures.count ∙ sym (ap (λ (m : Sizes). m.threads) c.in-Ok.ensures.sizes))) told.ran in
    record { crew = all.0 }

pub returns-clause-runs : goal.returns-clause-runs
returns-clause-runs g c = λ failed input rows all accepted kept.
    let crew = c.in-Ok-run_members.crew.items in let told = c.in-Ok-run_members.ensures in
    let many : length crew ≡ c.args.settings.now.threads = told.many ∙ c.in-Ok.ensures.count in
    let whole : c.as_slice.result.now ≡ crew = c.as_slice.ensures.value in
    finished c.args.settings.now rows accepted c.in-Ok.board c.in-Ok.ensures.sizes crew many
    (λ t d below. subst (λ asked. HasRunAt c.args.settings.now c.in-Ok.board t asked (slice_index_or crew t d)) (kept.each t (omega (arith, below, many))) (told.ran t d below))
    failed input all c.finish.result
    (λ t below. subst (λ (z : List (Option Worker)). gave_up_at (slice_index_or z t None) ≡ None) whole (c.in_default-first_to_give_up.ensures.none refl t None (subst (λ (z : List (Option Worker)). t < length z) (sym whole) (omega (arith, below, many)))))
    c.finish.ensures.totals c.finish.ensures.refused
