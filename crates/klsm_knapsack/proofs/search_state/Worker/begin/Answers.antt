use Rattle.std.proofs.Common.{◌≡◌, ◌∙◌, ap, false, true, refl, lit<}
use Rattle.klsm_schedules.specs.OwnSteps.{inserted}
use Rattle.klsm_knapsack.proofs.CrewLemmas.{new_room, root_at_work}
use Rattle.klsm_knapsack.proofs.search_state.Worker.begin.Goals as goal

pub insert-requires : goal.insert-requires
insert-requires g c = (lit< tt, (lit< tt, (c.requires.of, (new_room c.args.self.now c.requires.new c.requires.room, c.root.ensures.node))))

pub returns-in-Ok-clause-begun : goal.returns-in-Ok-clause-begun
returns-in-Ok-clause-begun g c =
    let root = c.root.ensures.root in
    let one = c.in-Ok.ensures.inserts in
    root_at_work c.args.state.now.no_room c.args.instance.now c.args.self.now c.insert.new.self one.0 c.requires.new one.1 (one.2 ∙ root.0) (one.3 ∙ root.1) one.4 c.in-Ok.ensures.deletes c.in-Ok.ensures.answered

pub returns-in-Ok-clause-course : goal.returns-in-Ok-clause-course
returns-in-Ok-clause-course g c first on = c.in-Ok.ensures.course first on

pub returns-in-Err-clause-course : goal.returns-in-Err-clause-course
returns-in-Err-clause-course g c first on = c.in-Err.ensures.course first on

pub returns-in-Ok-clause-refused : goal.returns-in-Ok-clause-refused
returns-in-Ok-clause-refused g c = λ not. let bad : true ≡ false = not in absurd (let none : ⊥ = cc in none)

pub returns-in-Err-clause-refused : goal.returns-in-Err-clause-refused
returns-in-Err-clause-refused g c = λ not.
    let told = c.in-Err.ensures in
    record { why = c.in-Err.why; refused = refl; ended = told.refused; none_inserted = told.refuses ∙ ap inserted c.requires.new.steps }
