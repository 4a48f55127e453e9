use Rattle.std.proofs.Common.{arith, refl, lit<}
use Rattle.klsm_board.specs.Boards.{own_steps}
use Rattle.klsm_knapsack.specs.Answers.{GainsNothing, GainsSome}
use Rattle.klsm_knapsack.proofs.CourseLemmas.{course_both}
use Rattle.klsm_knapsack.proofs.CrewLemmas.{same_of}
use Rattle.klsm_knapsack.proofs.IdleLemmas.{idle_at_first, idle_once_more, idle_no_more}
use Rattle.klsm_knapsack.proofs.WorkLemmas.{inserts_none, inserts_both, same_both}
use Rattle.klsm_knapsack.proofs.search_state.Worker.work.Goals as goal

pub loop-init : goal.loop-init
loop-init g c = record {
  next = (tt, tt);
  few = omega arith;
  same = record { member = (refl, refl, refl); seat = refl };
  course = λ first on. on;
  at_work = c.requires.begins;
  answers = idle_at_first _;
  inserts = inserts_none _ _;
}

pub may_split-requires : goal.may_split-requires
may_split-requires g c = (lit< tt, (lit< tt, same_of c.args.state.now c.args.self.now c.loop.self c.requires.of c.loop.invariant.same))

pub turn-requires-after_bounds : goal.turn-requires-after_bounds
turn-requires-after_bounds g c κs within =
    let inv = c.loop.invariant in
    (lit< tt, (lit< tt, (same_of c.args.state.now c.args.self.now c.loop.self c.requires.of inv.same, ((c.if-not-may_split.ensures).0 refl, (c.requires.problem, inv.at_work)))))

pub returns-in_err-turn-clause-same : goal.returns-in_err-turn-clause-same
returns-in_err-turn-clause-same g c = same_both c.args.self.now c.loop.self c.turn.new.self c.loop.invariant.same c.turn.ensures.same

pub returns-in_err-turn-clause-course : goal.returns-in_err-turn-clause-course
returns-in_err-turn-clause-course g c = course_both c.args.self.now c.loop.self c.turn.new.self c.loop.invariant.same c.loop.invariant.course c.turn.ensures.course

pub loop-preserved-then-branch : goal.loop-preserved-then-branch
loop-preserved-then-branch g c =
    let inv = c.loop.invariant in
    let turned = c.in_ok-turn.ensures in
    let some : GainsSome (own_steps c.loop.self.member) (own_steps c.turn.new.self.member) = rw c.if-branch.true at turned.answers in
    record {
      next = (tt, tt);
      few = omega arith;
      same = same_both c.args.self.now c.loop.self c.turn.new.self inv.same turned.same;
      course = course_both c.args.self.now c.loop.self c.turn.new.self inv.same inv.course turned.course;
      at_work = turned.goes_on;
      answers = idle_no_more _ _ _ _ inv.answers some;
      inserts = inserts_both _ _ _ _ inv.inserts turned.inserts;
    }

pub loop-preserved : goal.loop-preserved
loop-preserved g c =
    let inv = c.loop.invariant in
    let turned = c.in_ok-turn.ensures in
    let nothing : GainsNothing (own_steps c.loop.self.member) (own_steps c.turn.new.self.member) = rw c.if-branch.false at turned.answers in
    record {
      next = (tt, tt);
      few = omega (arith, inv.few, c.if-nothings-idle.false);
      same = same_both c.args.self.now c.loop.self c.turn.new.self inv.same turned.same;
      course = course_both c.args.self.now c.loop.self c.turn.new.self inv.same inv.course turned.course;
      at_work = turned.goes_on;
      answers = idle_once_more _ _ _ _ inv.answers nothing;
      inserts = inserts_both _ _ _ _ inv.inserts turned.inserts;
    }

pub unreachable-unreachable : goal.unreachable-unreachable
unreachable-unreachable g c = c.unreachable.type_inv
