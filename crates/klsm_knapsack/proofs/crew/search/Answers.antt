use Rattle.std.proofs.Common.{◌≡◌, ◌<◌, ◌≤◌, inl, inr, arith, length, get_or-set_same, get_or, set, None, List, [], lit<, sym, subst, refl}
use Rattle.std.proofs.lemmas.List.{length-set}
use Rattle.klsm_knapsack.specs.declared.search_state.Worker.{Worker}
use Rattle.klsm_board.specs.Boards.{own_steps}
use Rattle.klsm_board.specs.declared.sizes.Sizes.{Sizes}
use Rattle.klsm_schedules.specs.declared.step.Entry.{Entry}
use Rattle.klsm_knapsack.specs.Answers.{GainsOthers}
use Rattle.klsm_knapsack.specs.Work.{HasNode}
use Rattle.klsm_knapsack.specs.Workers.{work_by}
use Rattle.klsm_knapsack.proofs.CourseLemmas.{begun_go}
use Rattle.klsm_knapsack.proofs.CrewLemmas.{crew_begun, crew_ready, crew_run, all_ended, all_worked, begun_gains, each_worker}
use Rattle.klsm_knapsack.proofs.RoomLemmas.{root_refused}
use Rattle.klsm_knapsack.proofs.crew.search.Goals as goal

pub begin-requires : goal.begin-requires
begin-requires g c =
    let d = c.index-crew-0.result in let first = each_worker c.args.state.now c.args.crew.now c.requires.crew 0 d c.requires.crew.some_worker in
    (lit< tt, (lit< tt, (first, (c.requires.new 0 d c.requires.crew.some_worker, subst (λ (m : Sizes). 2 ≤ m.quota) (sym first.member.1) c.requires.room))))

pub run_all-requires-after_bounds : goal.run_all-requires-after_bounds
run_all-requires-after_bounds g c κs within =
    let some_worker : 0 < length (set c.args.crew.now 0 c.begin.new.self) = omega (arith, length-set c.args.crew.now 0 c.begin.new.self, c.requires.crew.some_worker) in
    (lit< tt, (lit< tt, (c.requires.problem, (some_worker, crew_ready c.args.state.now c.args.state.now.no_room c.args.instance.now c.args.crew.now c.index-crew-0.result c.begin.new.self c.requires.crew c.requires.new c.begin.ensures.same c.if-begin.ensures.begun.0))))

pub returns-then-begin-clause-crew : goal.returns-then-begin-clause-crew
returns-then-begin-clause-crew g c =
    let many : length c.run_all.new.crew ≡ length (set c.args.crew.now 0 c.begin.new.self) = c.run_all.auto.crew in
    crew_run c.args.state.now c.args.state.now.no_room c.args.instance.now c.args.idle (set c.args.crew.now 0 c.begin.new.self) c.run_all.new.crew many c.run_all.ensures
    (crew_begun c.args.state.now c.args.crew.now c.index-crew-0.result c.begin.new.self c.requires.crew c.begin.ensures.same)

pub returns-then-begin-clause-worked : goal.returns-then-begin-clause-worked
returns-then-begin-clause-worked g c = λ none.
    let begun = set c.args.crew.now 0 c.begin.new.self in
    let d = c.index-crew-0.result in
    let many : length c.run_all.new.crew ≡ length begun = c.run_all.auto.crew in
    let some_worker : 0 < length begun = omega (arith, length-set c.args.crew.now 0 c.begin.new.self, c.requires.crew.some_worker) in
    let first : get_or begun 0 d ≡ c.begin.new.self = get_or-set_same c.args.crew.now 0 c.begin.new.self d c.requires.crew.some_worker in
    let root : HasNode (work_by (get_or begun 0 d)).inserted 0 0 = subst (λ (w : Worker g.row.LEVELS). HasNode (work_by w).inserted 0 0) (sym first) c.if-begin.ensures.begun.1 in
    all_worked c.args.state.now.no_room c.args.instance.now c.args.idle begun c.run_all.new.crew d some_worker many c.run_all.ensures root none

pub returns-else-begin-clause-crew : goal.returns-else-begin-clause-crew
returns-else-begin-clause-crew g c = crew_begun c.args.state.now c.args.crew.now c.index-crew-0.result c.begin.new.self c.requires.crew c.begin.ensures.same

pub returns-else-begin-clause-worked : goal.returns-else-begin-clause-worked
returns-else-begin-clause-worked g c = λ none.
    let d = c.index-crew-0.result in
    let some_worker : 0 < length (set c.args.crew.now 0 c.begin.new.self) = omega (arith, length-set c.args.crew.now 0 c.begin.new.self, c.requires.crew.some_worker) in
    let first : get_or (set c.args.crew.now 0 c.begin.new.self) 0 d ≡ c.begin.new.self = get_or-set_same c.args.crew.now 0 c.begin.new.self d c.requires.crew.some_worker in
    absurd (c.if-begin.ensures.begun (subst (λ (w : Worker g.row.LEVELS). w.refused ≡ None) first (none 0 d some_worker)))

pub returns-then-begin-clause-ended : goal.returns-then-begin-clause-ended
returns-then-begin-clause-ended g c =
    let d = c.index-crew-0.result in
    let after : Worker g.row.LEVELS = c.begin.new.self in
    let begun = set c.args.crew.now 0 after in
    let many : length c.run_all.new.crew ≡ length begun = c.run_all.auto.crew in
    let no_steps = (c.requires.new 0 d c.requires.crew.some_worker).steps in
    let gains : GainsOthers [] (own_steps after.member) = subst (λ (es : List Entry). GainsOthers es (own_steps after.member)) no_steps (c.if-begin.ensures.gains refl) in
    inl (all_ended c.args.state.now.no_room c.args.instance.now c.args.idle begun c.run_all.new.crew many c.run_all.ensures
    (begun_go c.args.crew.now d after c.requires.new c.requires.pickers c.begin.ensures.same c.begin.ensures.course) (begun_gains c.args.crew.now after c.requires.new gains))

pub returns-else-begin-clause-ended : goal.returns-else-begin-clause-ended
returns-else-begin-clause-ended g c =
    let after = c.begin.new.self in let new = c.requires.new in
    inr (root_refused c.args.crew.now after c.requires.crew.some_worker new (c.if-begin.ensures.refused refl), begun_go c.args.crew.now c.index-crew-0.result after new c.requires.pickers c.begin.ensures.same c.begin.ensures.course)

pub returns-then-begin-clause-room : goal.returns-then-begin-clause-room
returns-then-begin-clause-room g c = λ alone. inl (λ k d lt. (c.run_all.ensures k d (omega (arith, lt, c.run_all.auto.crew))).room alone)

pub returns-else-begin-clause-room : goal.returns-else-begin-clause-room
returns-else-begin-clause-room g c = λ alone. inr (root_refused c.args.crew.now c.begin.new.self c.requires.crew.some_worker c.requires.new (c.if-begin.ensures.refused refl))
