use Rattle.std.proofs.Common.{rules, ◌≡◌, ◌≢◌, ◌∙◌, List, [], map, length, drop, sym, ap, arith, subst, Vec, Global}
use Rattle.std.proofs.lemmas.List.{length-map}
use Rattle.klsm_text.specs.declared.stop.Stop.TheVariants as stop
use Rattle.klsm_text.specs.declared.thread_rows.ThreadRow.{ThreadRow}
use Rattle.klsm_text.specs.Keeping.{AreKept}
use Rattle.klsm_text.specs.Reading.{reader_failed}
use Rattle.klsm_tool.specs.Live.{HasNoTotals}
use Rattle.klsm_text.specs.ThreadRows.{StopsReading}
use Rattle.klsm_tool.proofs.CrewLemmas.{written_back}
use Rattle.klsm_tool.proofs.NotRunLemmas.{memory_refuses_no_row, not_run, stands_unrefused}
use Rattle.klsm_tool.proofs.live.run_script.Goals as goal

abbrev kept_lists : List (Vec ThreadRow Global) → List (List ThreadRow)
kept_lists lists = map (λ (list : Vec ThreadRow Global). list.items) lists

pub returns-in_default-clause-runs : goal.returns-in_default-clause-runs
returns-in_default-clause-runs g c = λ input read.
    subst (HasNoTotals (reader_failed c.args.script.now) c.args.settings.now.threads input c.at.result.row) (sym c.at.ensures.stop) tt

pub returns-then-ne-clause-runs : goal.returns-then-ne-clause-runs
returns-then-ne-clause-runs g c = λ input read.
    let threads = c.args.settings.now.threads in
    let other : c.keep_rows-closing.result.stop ≢ stop.AtEnd = search rules in
    let kept : AreKept threads [] (kept_lists c.as_mut_slice.result.now) = subst (λ (z : List (Vec ThreadRow Global)). AreKept threads [] (kept_lists z)) (sym c.as_mut_slice.ensures.value) c.in-Ok.ensures in
    not_run g.R.Read.remaining threads c.keep_rows-closing.result.row _ _ c.keep_rows-closing.new.script _ (c.keep_rows-closing.ensures threads input read kept) other

pub run_rows-requires-clause-script : goal.run_rows-requires-clause-script
run_rows-requires-clause-script g c =
    let threads = c.args.settings.now.threads in let lists = c.keep_rows-closing.new.lists in
    let at_end : c.keep_rows-closing.result.stop ≡ stop.AtEnd = search rules in
    let kept : AreKept threads [] (kept_lists c.as_mut_slice.result.now) = subst (λ (z : List (Vec ThreadRow Global)). AreKept threads [] (kept_lists z)) (sym c.as_mut_slice.ensures.value) c.in-Ok.ensures in
    let ended = c.keep_rows-closing.ensures threads c.requires.read.0 c.requires.read.1 kept in
    let many : length lists ≡ c.in-Ok.rows.len = c.keep_rows-closing.auto.lists ∙ (ap (λ (z : List (Vec ThreadRow Global)). length z) c.as_mut_slice.ensures.value ∙ sym c.in-Ok.rows.ok.0) in
    let whole : c.as_slice.result.now ≡ lists = c.as_slice.ensures.value ∙ written_back lists (drop (length lists) c.in-Ok.rows.items) c.in-Ok.rows.len many in
    λ _ _. (ended.rows, ended.accepted, subst (λ (z : List (Vec ThreadRow Global)). AreKept threads ended.rows (kept_lists z)) (sym whole) (ended.kept at_end))

pub returns-clause-runs : goal.returns-clause-runs
returns-clause-runs g c = λ input read.
    let threads = c.args.settings.now.threads in let lists = c.keep_rows-closing.new.lists in
    let at_end : c.keep_rows-closing.result.stop ≡ stop.AtEnd = search rules in
    let kept : AreKept threads [] (kept_lists c.as_mut_slice.result.now) = subst (λ (z : List (Vec ThreadRow Global)). AreKept threads [] (kept_lists z)) (sym c.as_mut_slice.ensures.value) c.in-Ok.ensures in
    let ended = c.keep_rows-closing.ensures threads input read kept in
    let many : length lists ≡ c.in-Ok.rows.len = c.keep_rows-closing.auto.lists ∙ (ap (λ (z : List (Vec ThreadRow Global)). length z) c.as_mut_slice.ensures.value ∙ sym c.in-Ok.rows.ok.0) in
    let whole : c.as_slice.result.now ≡ lists = c.as_slice.ensures.value ∙ written_back lists (drop (length lists) c.in-Ok.rows.items) c.in-Ok.rows.len many in
    c.run_rows.ensures.runs _ input ended.rows (subst (StopsReading threads input ended.rows) at_end ended.stops) ended.accepted
    (subst (λ (z : List (Vec ThreadRow Global)). AreKept threads ended.rows (kept_lists z)) (sym whole) (ended.kept at_end))

pub keep_rows-closing-requires : goal.keep_rows-closing-requires
keep_rows-closing-requires g c =
    let many = length-map c.in-Ok.rows.items (λ list. list.items) in let kept = c.in-Ok.ensures.many in
    (record { shared = c.type_bounds.sync-H.shared }, omega (arith, c.as_mut_slice.ensures.len, c.in-Ok.rows.ok.0, many, kept, c.requires.threads))

pub run_rows-requires-clause-many : goal.run_rows-requires-clause-many
run_rows-requires-clause-many g c = λ _ _. c.as_slice.ensures.len ∙ (c.in-Ok.rows.ok.0 ∙ (sym (length-map c.in-Ok.rows.items (λ list. list.items)) ∙ c.in-Ok.ensures.many))

pub returns-in_default-clause-refused : goal.returns-in_default-clause-refused
returns-in_default-clause-refused g c = λ input read why is. absurd (memory_refuses_no_row why _ c.at.ensures.stop is)

pub returns-then-ne-clause-refused : goal.returns-then-ne-clause-refused
returns-then-ne-clause-refused g c = λ input read.
    let threads = c.args.settings.now.threads in
    let kept : AreKept threads [] (kept_lists c.as_mut_slice.result.now) = subst (λ (z : List (Vec ThreadRow Global)). AreKept threads [] (kept_lists z)) (sym c.as_mut_slice.ensures.value) c.in-Ok.ensures in
    (c.keep_rows-closing.ensures threads input read kept).stands

pub returns-clause-refused : goal.returns-clause-refused
returns-clause-refused g c = λ input read. stands_unrefused g.R.Read.remaining c.args.settings.now.threads input c.keep_rows-closing.new.script c.run_rows.result c.run_rows.ensures.memory
