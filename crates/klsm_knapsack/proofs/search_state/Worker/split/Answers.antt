use Rattle.std.proofs.Common.{◌+◌, ◌^◌, ℕ, arith, ◌∙◌, lit<}
use Rattle.klsm_knapsack.specs.Workers.{InsertsNodes}
use Rattle.klsm_knapsack.proofs.CoverageLemmas.{wider}
use Rattle.klsm_knapsack.proofs.CourseLemmas.{course_both}
use Rattle.klsm_knapsack.proofs.CrewLemmas.{same_of}
use Rattle.klsm_knapsack.proofs.IdleLemmas.{gains_both}
use Rattle.klsm_knapsack.proofs.WorkLemmas.{inserts_one, inserts_both, inserts_same, has_last, room_left, same_both}
use Rattle.klsm_knapsack.proofs.search_state.Worker.split.Goals as goal

pub returns-in_ok-insert-2-clause-extends : goal.returns-in_ok-insert-2-clause-extends
returns-in_ok-insert-2-clause-extends g c =
    let first = c.in_ok-insert.ensures.inserts in
    let second = c.in_ok-insert-2.ensures.inserts in
    record {
      inserts = inserts_both _ _ _ _ (inserts_one _ _ _ first.0 first.1 first.4) (inserts_one _ _ _ second.0 second.1 second.4);
      deletes = c.in_ok-insert-2.ensures.deletes ∙ c.in_ok-insert.ensures.deletes;
      finds = omega (arith, c.in_ok-insert-2.ensures.finds, c.in_ok-insert.ensures.finds);
    }

-- where a child found no room, what was inserted before it is
pub returns-in_err-insert-clause-extends : goal.returns-in_err-insert-clause-extends
returns-in_err-insert-clause-extends g c =
    let told = c.in_err-insert.ensures in
    record { inserts = inserts_same _ _ _ told.refuses; deletes = told.deletes; finds = omega (arith, told.finds) }

pub returns-in_err-insert-2-clause-extends : goal.returns-in_err-insert-2-clause-extends
returns-in_err-insert-2-clause-extends g c =
    let first = c.in_ok-insert.ensures.inserts in
    let told = c.in_err-insert-2.ensures in
    record {
      inserts = inserts_both _ _ _ _ (inserts_one _ _ _ first.0 first.1 first.4) (inserts_same _ _ _ told.refuses);
      deletes = told.deletes ∙ c.in_ok-insert.ensures.deletes;
      finds = omega (arith, told.finds, c.in_ok-insert.ensures.finds);
    }

pub returns-in_ok-insert-2-clause-gains : goal.returns-in_ok-insert-2-clause-gains
returns-in_ok-insert-2-clause-gains g c = gains_both _ _ _ c.in_ok-insert.ensures.gains c.in_ok-insert-2.ensures.gains

pub returns-in_err-insert-2-clause-gains : goal.returns-in_err-insert-2-clause-gains
returns-in_err-insert-2-clause-gains g c = gains_both _ _ _ c.in_ok-insert.ensures.gains c.in_err-insert-2.ensures.gains

pub returns-in_ok-insert-2-clause-split : goal.returns-in_ok-insert-2-clause-split
returns-in_ok-insert-2-clause-split g c =
    let l : ℕ = c.args.node.now.level in
    let first = c.in_ok-insert.ensures.inserts in
    let second = c.in_ok-insert-2.ensures.inserts in
    let child = c.in-Some.ensures in
    let leaving = c.leaving.ensures.child in
    let later : InsertsNodes c.args.instance.now _ _ = inserts_one _ _ _ second.0 second.1 second.4 in
    record {
      one_more = c.requires.free;
      leaves = wider _ _ (l + 1) c.args.node.now.picks later.kept (has_last _ _ first.0 (l + 1) c.args.node.now.picks first.4 (first.2 ∙ leaving.0) (first.3 ∙ leaving.1));
      takes = λ fits. has_last _ _ second.0 (l + 1) (c.args.node.now.picks + 2 ^ l) second.4 (second.2 ∙ child.1) (second.3 ∙ child.2);
    }

pub returns-in_default-clause-extends : goal.returns-in_default-clause-extends
returns-in_default-clause-extends g c =
    let first = c.in_ok-insert.ensures.inserts in
    record {
      inserts = inserts_one _ _ _ first.0 first.1 first.4;
      deletes = c.in_ok-insert.ensures.deletes;
      finds = omega (arith, c.in_ok-insert.ensures.finds);
    }

pub returns-in_default-clause-split : goal.returns-in_default-clause-split
returns-in_default-clause-split g c =
    let l : ℕ = c.args.node.now.level in
    let first = c.in_ok-insert.ensures.inserts in
    let leaving = c.leaving.ensures.child in
    record {
      one_more = c.requires.free;
      leaves = has_last _ _ first.0 (l + 1) c.args.node.now.picks first.4 (first.2 ∙ leaving.0) (first.3 ∙ leaving.1);
      takes = λ fits. absurd (omega (arith, fits, c.in_default.ensures));
    }

pub insert-requires : goal.insert-requires
insert-requires g c = (lit< tt, (lit< tt, (c.requires.of, (omega (arith, c.requires.room), c.leaving.ensures.node))))

pub insert-requires-in-Some : goal.insert-requires-in-Some
insert-requires-in-Some g c =
    let made = c.in_ok-insert.ensures in
    let one = made.inserts in
    (lit< tt, (lit< tt, (same_of c.args.state.now c.args.self.now c.insert.new.self c.requires.of made.same, (room_left _ _ one.0 _ _ one.4 made.same.member.1 c.requires.room, c.in-Some.ensures.0))))

pub returns-in_err-insert-2-clause-same : goal.returns-in_err-insert-2-clause-same
returns-in_err-insert-2-clause-same g c = same_both c.args.self.now c.insert.new.self c.insert-in-Some.new.self c.in_ok-insert.ensures.same c.in_err-insert-2.ensures.same

pub returns-in_ok-insert-2-clause-same : goal.returns-in_ok-insert-2-clause-same
returns-in_ok-insert-2-clause-same g c = same_both c.args.self.now c.insert.new.self c.insert-in-Some.new.self c.in_ok-insert.ensures.same c.in_ok-insert-2.ensures.same

pub returns-in_err-insert-clause-course : goal.returns-in_err-insert-clause-course
returns-in_err-insert-clause-course g c = c.in_err-insert.ensures.course

pub returns-in_default-clause-course : goal.returns-in_default-clause-course
returns-in_default-clause-course g c = c.in_ok-insert.ensures.course

pub returns-in_err-insert-2-clause-course : goal.returns-in_err-insert-2-clause-course
returns-in_err-insert-2-clause-course g c = course_both c.args.self.now c.insert.new.self c.insert-in-Some.new.self c.in_ok-insert.ensures.same c.in_ok-insert.ensures.course c.in_err-insert-2.ensures.course

pub returns-in_ok-insert-2-clause-course : goal.returns-in_ok-insert-2-clause-course
returns-in_ok-insert-2-clause-course g c = course_both c.args.self.now c.insert.new.self c.insert-in-Some.new.self c.in_ok-insert.ensures.same c.in_ok-insert.ensures.course c.in_ok-insert-2.ensures.course
