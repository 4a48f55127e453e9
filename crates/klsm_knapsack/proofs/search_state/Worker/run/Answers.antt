use Rattle.std.proofs.Common.{◌∙◌, lit<}
use Rattle.klsm_knapsack.proofs.CrewLemmas.{same_of}
use Rattle.klsm_knapsack.proofs.RunLemmas.{has_run}
use Rattle.klsm_knapsack.proofs.WorkLemmas.{same_both}
use Rattle.klsm_knapsack.proofs.search_state.Worker.run.Goals as goal

pub work-requires-after_bounds : goal.work-requires-after_bounds
work-requires-after_bounds g c κs within =
    (lit< tt, (lit< tt, (c.requires.of, (c.requires.problem, (c.requires.begins, c.pass-passed.ensures ∙ c.number.ensures.number)))))

pub share-requires : goal.share-requires
share-requires g c =
    let same = c.work.ensures.same in
    (lit< tt, (lit< tt, same_of c.args.state.now c.args.self.now _ c.requires.of record { member = same.member; seat = same.seat }))

pub returns : goal.returns
returns g c =
    let before = c.args.self.now in let mid = c.work.new.self in let told = c.work.ensures in let shared = c.share.ensures in
    has_run c.args.state.now.no_room c.args.instance.now c.args.idle before mid c.share.new.self c.work.result told.course told.goes_on told.inserts told.idle told.refused told.memory
    (same_both before _ c.share.new.self record { member = told.same.member; seat = told.same.seat } shared.same) shared.same.member
    (shared.keeps.1 ∙ c.err-self.ensures.value) shared.keeps.0 shared.work shared.shares
