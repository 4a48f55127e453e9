use Rattle.std.proofs.Common.{◌≡◌, ◌≤◌, ◌+◌, ◌∙◌, None, Some, inr, length, refl, lit<, ap, subst, sym, arith, rules}
use Rattle.std.proofs.lemmas.List.{append-nil}
use Rattle.klsm_schedules.specs.OwnSteps.{inserted}
use Rattle.klsm_board.specs.Boards.{own_steps}
use Rattle.klsm_knapsack.specs.declared.search_state.Worker.{Worker}
use Rattle.klsm_knapsack.specs.Courses.{CallsOfWorker}
use Rattle.klsm_knapsack.specs.Ends.{EndsAnswered}
use Rattle.klsm_knapsack.specs.Workers.{work_by}
use Rattle.klsm_knapsack.proofs.AnswerLemmas.{after_item, after_none, deletion_gains, no_deletion_gains}
use Rattle.klsm_knapsack.proofs.CourseLemmas.{course_both, one_call}
use Rattle.klsm_knapsack.proofs.IdleLemmas.{gains_more}
use Rattle.klsm_knapsack.proofs.WorkLemmas.{inserts_same, inserts_both, same_both, worked_on}
use Rattle.klsm_knapsack.proofs.search_state.Worker.turn.Goals as goal

pub returns-clause-goes_on : goal.returns-clause-goes_on
returns-clause-goes_on g c =
    let before = c.args.self.now in
    let adds = c.in-Some.ensures.adds in
    record {
      worked = worked_on c.args.instance.now (work_by before) (work_by record { member = c.delete_min.new.self; seat = before.seat; picker = c.delete_min.new.picker; pace = c.count.new.self; is_alone = before.is_alone; refused = before.refused }) (work_by c.examine.new.self) c.in-Some.item c.requires.begins.worked
          (adds.inserted_are ∙ append-nil _) adds.deleted_are refl c.in_ok-examine.ensures.extends (c.in_ok-examine.ensures.done c.in-Some.item refl);
      answered = c.in_ok-examine.ensures.answered;
    }

pub returns-in_default-clause-goes_on : goal.returns-in_default-clause-goes_on
returns-in_default-clause-goes_on g c =
    let told = c.in_default.ensures in
    record {
      worked = search rules;
      -- how the picker may pick does not matter, as it was not asked
      answered = λ refuses. subst (λ t. EndsAnswered t (own_steps c.delete_min.new.self)) (sym told.same.0) (after_none (λ before candidates index after. Unit {0}) _ _ _ _ _ _ told.ok);
    }

pub returns-in_default-clause-inserts : goal.returns-in_default-clause-inserts
returns-in_default-clause-inserts g c = inserts_same _ _ _ (c.in_default.ensures.adds.inserted_are ∙ append-nil _)

pub returns-clause-same : goal.returns-clause-same
returns-clause-same g c = same_both c.args.self.now _ c.examine.new.self record { member = c.delete_min.ensures.same; seat = refl } c.in_ok-examine.ensures.same

pub returns-in_err-examine-clause-same : goal.returns-in_err-examine-clause-same
returns-in_err-examine-clause-same g c = same_both c.args.self.now _ c.examine.new.self record { member = c.delete_min.ensures.same; seat = refl } c.in_err-examine.ensures.same

pub returns-clause-inserts : goal.returns-clause-inserts
returns-clause-inserts g c = inserts_both _ _ _ _ (inserts_same _ _ _ (c.in-Some.ensures.adds.inserted_are ∙ append-nil _)) c.in_ok-examine.ensures.extends.inserts

pub delete_min-requires : goal.delete_min-requires
delete_min-requires g c = (lit< tt, (lit< tt, c.requires.of.member))

pub returns-in_default-clause-same : goal.returns-in_default-clause-same
returns-in_default-clause-same g c = record { member = c.delete_min.ensures.same; seat = refl }

pub returns-in_default-clause-answers : goal.returns-in_default-clause-answers
returns-in_default-clause-answers g c =
    let ok = c.in_default.ensures.ok in
    -- how the picker may pick does not matter, as it was not asked
    no_deletion_gains (λ before candidates index after. Unit {0}) _ _ _ _ _ _ ok

pub returns-clause-answers : goal.returns-clause-answers
returns-clause-answers g c =
    let ok = c.in-Some.ensures.ok in
    gains_more _ _ _ (deletion_gains _ _ _ _ _ _ _ _ ok) c.in_ok-examine.ensures.gains

pub examine-requires-after_bounds : goal.examine-requires-after_bounds
examine-requires-after_bounds g c κs within =
    let told = c.in-Some.ensures in let of = c.requires.of.member in let same = told.same in let new = c.delete_min.new.self in
    let many : length (inserted (own_steps new)) ≡ length (inserted (own_steps c.args.self.now.member)) = ap length (told.adds.inserted_are ∙ append-nil _) in
    let room : length (inserted (own_steps new)) + 2 ≤ new.sizes.quota = omega (arith, many, c.requires.room, ap (λ m. m.quota) same.1) in
    let answered = subst (λ t. EndsAnswered t (own_steps new)) (sym same.0) (after_item _ _ _ _ _ _ _ _ told.ok) in
    (lit< tt, (lit< tt, (record { member = (same.2 ∙ of.0, same.1 ∙ of.1); seat = c.requires.of.seat }, (room, (c.requires.problem, λ refuses. answered)))))

pub returns-in_default-clause-course : goal.returns-in_default-clause-course
returns-in_default-clause-course g c first on =
    let before = c.args.self.now in let me = before.member in
    one_call (CallsOfWorker g.row.LEVELS me.sizes me.number) first before.picker c.delete_min.new.picker (own_steps me) (own_steps c.delete_min.new.self) on (inr (None, c.in_default.ensures.ok))

pub returns-in_err-examine-clause-course : goal.returns-in_err-examine-clause-course
returns-in_err-examine-clause-course g c =
    let before = c.args.self.now in let me = before.member in
    let mid : Worker g.row.LEVELS = record { member = c.delete_min.new.self; seat = before.seat; picker = c.delete_min.new.picker; pace = c.count.new.self; is_alone = before.is_alone; refused = before.refused } in
    course_both before mid c.examine.new.self record { member = c.delete_min.ensures.same; seat = refl }
    (λ first on. one_call (CallsOfWorker g.row.LEVELS me.sizes me.number) first before.picker mid.picker (own_steps me) (own_steps mid.member) on (inr (Some c.in-Some.item, c.in-Some.ensures.ok))) c.in_err-examine.ensures.course

pub returns-clause-course : goal.returns-clause-course
returns-clause-course g c =
    let before = c.args.self.now in let me = before.member in
    let mid : Worker g.row.LEVELS = record { member = c.delete_min.new.self; seat = before.seat; picker = c.delete_min.new.picker; pace = c.count.new.self; is_alone = before.is_alone; refused = before.refused } in
    course_both before mid c.examine.new.self record { member = c.delete_min.ensures.same; seat = refl }
    (λ first on. one_call (CallsOfWorker g.row.LEVELS me.sizes me.number) first before.picker mid.picker (own_steps me) (own_steps mid.member) on (inr (Some c.in-Some.item, c.in-Some.ensures.ok))) c.in_ok-examine.ensures.course
