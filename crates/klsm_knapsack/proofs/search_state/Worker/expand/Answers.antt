use Rattle.std.proofs.Common.{inl, refl, rules}
use Rattle.klsm_knapsack.specs.Workers.{Extends, KeepsCourse, work_by}
use Rattle.klsm_knapsack.proofs.WorkLemmas.{inserts_none, extends_none, extends_both}
use Rattle.klsm_knapsack.proofs.search_state.Worker.expand.Goals as goal
use Rattle.klsm_knapsack.proofs.search_state.Worker.expand.Goals.{then-not-self+in-Err-Full, else-not-self}

pub returns-clause-extends : goal.returns-clause-extends
returns-clause-extends g c =
    let p = c.args.instance.now in
    let before : Extends p (work_by c.args.self.now) (work_by c.if-not-self.self) = elim c.if-not-self.branch [
      | then-not-self+in-Err-Full w ↦ rw w.self-is w.split.ensures.extends
      | else-not-self w ↦ rw w.self-is (extends_none p _)
    ] in
    extends_both p _ (work_by c.if-not-self.self) _ before record { inserts = inserts_none p _; deletes = refl; finds = c.search_alone.ensures.found }

pub returns-clause-done : goal.returns-clause-done
returns-clause-done g c = inl c.search_alone.ensures.covers

pub returns-in_default-clause-goes_on : goal.returns-in_default-clause-goes_on
returns-in_default-clause-goes_on g c = search rules

pub returns-in_default-clause-course : goal.returns-in_default-clause-course
returns-in_default-clause-course g c = c.split.ensures.course

pub returns-clause-course : goal.returns-clause-course
returns-clause-course g c =
    let before : KeepsCourse c.args.self.now c.if-not-self.self = elim c.if-not-self.branch [
      | then-not-self+in-Err-Full w ↦ rw w.self-is w.split.ensures.course
      | else-not-self w ↦ rw w.self-is (λ first on. on)
    ] in
    λ first on. before first on
