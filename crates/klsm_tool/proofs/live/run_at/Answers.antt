use Rattle.std.proofs.Common.{◌≡◌, ◌<◌, ◌∙◌, ℕ, List, [], map, length, slice_index_or, ap, arith, sym, subst, Vec, Global}
use Rattle.std.proofs.lemmas.List.{get_or-map, length-map}
use Rattle.klsm_text.specs.declared.thread_rows.ThreadRow.{ThreadRow}
use Rattle.klsm_text.specs.Keeping.{kept_for, operation_in}
use Rattle.klsm_tool.specs.Working.{HasRunRows, IsReadyAt}
use Rattle.klsm_tool.proofs.live.run_at.Goals as goal

-- the rows of this place are those that are kept for it
rows_at : (lists : List (Vec ThreadRow Global)) (list : Vec ThreadRow Global) (t : ℕ) (rows : List ThreadRow) → t < length lists → rows ≡ (slice_index_or lists t list).items → map operation_in rows ≡ kept_for (map (λ l. l.items) lists) t
rows_at lists list t rows below same = ap (map operation_in) (same ∙ sym (get_or-map (λ (l : Vec ThreadRow Global). l.items) lists t list [] below))

pub run-requires-clause-few : goal.run-requires-clause-few
run-requires-clause-few g c =
    let same = rows_at c.args.live.now.rows.now c.index-live-index.result c.args.index c.as_slice-rows.result.now c.requires.below c.as_slice-rows.ensures.value in
    λ _ _. omega (arith, c.requires.few, length-map c.as_slice-rows.result.now operation_in, ap length same)

pub returns : goal.returns
returns g c =
    let same = rows_at c.args.live.now.rows.now c.index-live-index.result c.args.index c.as_slice-rows.result.now c.requires.below c.as_slice-rows.ensures.value in
    let there = subst (IsReadyAt c.args.live.now.board.now c.args.index) (sym c.in-Some.ensures.value) c.requires.ready in
    subst (λ t. HasRunRows c.args.live.now.settings.now c.args.live.now.board.now t (kept_for (map (λ list. list.items) c.args.live.now.rows.now) c.args.index) c.run.result) there.number
    (subst (λ asked. HasRunRows c.args.live.now.settings.now c.args.live.now.board.now c.in-Some.worker.member.number asked c.run.result) same c.run.ensures)

pub unreachable-unreachable : goal.unreachable-unreachable
unreachable-unreachable g c = c.unreachable.type_inv

pub run-requires-clause-passed : goal.run-requires-clause-passed
run-requires-clause-passed g c =
    let there = subst (IsReadyAt c.args.live.now.board.now c.args.index) (sym c.in-Some.ensures.value) c.requires.ready in
    λ _ _. c.pass-passed.ensures ∙ sym there.number
