use Rattle.std.proofs.Common.{◌≡◌, ◌∙◌, ℕ, [], None, Some, false, get_or, take, refl, subst, sym, ap, arith}
use Rattle.std.proofs.lemmas.List.{take_all}
use Rattle.klsm_run.specs.declared.limits.TheConstants.{PROGRAM_LEVELS}
use Rattle.klsm_board.specs.Boards.{own_steps}
use Rattle.klsm_text.specs.declared.thread_rows.ThreadRow.{ThreadRow}
use Rattle.klsm_tool.specs.declared.picking.ThreadPicker.{ThreadPicker}
use Rattle.klsm_knapsack.specs.Courses.{IsOnCourse}
use Rattle.klsm_tool.specs.Courses.{CallsInTurn}
use Rattle.klsm_tool.specs.Picking.{picker_of}
use Rattle.klsm_tool.specs.Shown.{shown_in}
use Rattle.klsm_tool.specs.MemberCalls.{AreAnswers}
use Rattle.klsm_tool.specs.MemberCalls.{IsAnswerTo, Wants}
use Rattle.klsm_knapsack.proofs.CourseLemmas.{no_calls}
use Rattle.klsm_tool.proofs.ShownLemmas.{inserted_within}
use Rattle.klsm_tool.proofs.WorkLemmas.{row_answered, row_given_up, so_many}
use Rattle.klsm_tool.proofs.worker.answer_all.Goals as goal

abbrev empty : ThreadRow
empty = record { is_deletion = false; key = 0; load = 0 }

pub answer-requires-clause-room : goal.answer-requires-clause-room
answer-requires-clause-room g c =
    let es = own_steps c.loop-row.member in
    let many = so_many c.args.rows.now c.loop-row.row-index empty c.loop-row-test.true es c.loop-row.invariant.answers in
    let quota = ap (λ m. m.quota) (c.loop-row.invariant.same.1 ∙ c.requires.of.1) in
    omega (arith, many, inserted_within es, c.loop-row-test.true, c.requires.few, quota)

pub returns-in-Err-clause-works : goal.returns-in-Err-clause-works
returns-in-Err-clause-works g c =
    let refused = c.in-Err.ensures.refused in let k = ap (λ m. m.k) (c.loop-row.invariant.same.1 ∙ c.requires.of.1) in
    row_given_up c.args.rows.now c.loop-row.row-index empty c.loop-row-test.true c.args.board.now.sizes.k c.args.member.now.number (own_steps c.loop-row.member) (own_steps c.answer.new.member) c.in-Err.want c.loop-row.invariant.answers refused.0
    (subst (λ t. Wants PROGRAM_LEVELS c.args.board.now.sizes.k t (own_steps c.answer.new.member) c.in-Err.want) c.loop-row.invariant.same.0
    (subst (λ n. Wants PROGRAM_LEVELS n c.loop-row.member.number (own_steps c.answer.new.member) c.in-Err.want) k refused.1))

pub loop-row-preserved : goal.loop-row-preserved
loop-row-preserved g c =
    let told = c.in_default.ensures in let was = c.loop-row.invariant in
    let row = get_or c.args.rows.now c.loop-row.row-index empty in
    let sizes = c.args.board.now.sizes in let first = picker_of c.args.settings.now c.args.member.now.number in
    let on = subst (λ (n : ℕ). IsOnCourse (CallsInTurn sizes n) first c.loop-row.picker (own_steps c.loop-row.member)) (sym was.same.0) was.course in
    record {
      same = (told.same.0 ∙ was.same.0, told.same.1 ∙ was.same.1, told.same.2 ∙ was.same.2);
      picks = told.picker ∙ (was.picks ∙ sym told.same.0);
      course = subst (λ (n : ℕ). IsOnCourse (CallsInTurn sizes n) first c.answer.new.picker (own_steps c.answer.new.member)) was.same.0 (told.course first on);
      answers = row_answered c.args.rows.now c.loop-row.row-index empty c.loop-row-test.true (own_steps c.loop-row.member) (own_steps c.answer.new.member) c.in_default.field-0 was.answers
          (subst (λ o. IsAnswerTo o c.in_default.field-0) c.operation.ensures told.answer) told.shown;
    }

pub loop-row-init : goal.loop-row-init
loop-row-init g c = record {
  same = (refl, refl, refl);
  picks = ap (λ (p : ThreadPicker). p.thread) c.requires.picks;
  course = no_calls (CallsInTurn c.args.board.now.sizes c.args.member.now.number) (picker_of c.args.settings.now c.args.member.now.number) c.args.picker.now (own_steps c.args.member.now) c.requires.picks c.requires.no_steps;
  answers = subst (AreAnswers []) (sym (ap shown_in c.requires.no_steps)) tt;
}

pub returns-clause-works : goal.returns-clause-works
returns-clause-works g c =
    let whole : take c.loop-row.row-index c.args.rows.now ≡ c.args.rows.now = take_all _ _ (omega (arith, c.loop-row-test.false)) in
    rw whole at c.loop-row.invariant.answers

pub returns-in-Err-clause-course : goal.returns-in-Err-clause-course
returns-in-Err-clause-course g c is = absurd (let bad : Some c.in-Err.want ≡ None = is in cc)

pub returns-clause-course : goal.returns-clause-course
returns-clause-course g c is = c.loop-row.invariant.course
