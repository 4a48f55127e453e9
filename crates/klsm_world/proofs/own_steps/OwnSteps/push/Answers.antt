use Rattle.std.specs.List.{flat_map}
use Rattle.std.proofs.Common.{arith, length, ◌≡◌, ◌+◌}
use Rattle.klsm_world.specs.Kept.{entry_of}
use Rattle.klsm_schedules.specs.OwnSteps.{inserted, inserted_by, event_at}
use Rattle.klsm_world.proofs.lemmas.kept.InsertionLemmas.{few_inserted, one_inserted, none_inserted, inserted_with}
use Rattle.klsm_world.proofs.lemmas.kept.WorkLemmas.{work_with}
use Rattle.klsm_world.proofs.own_steps.OwnSteps.push.Goals as goal
use Rattle.klsm_world.proofs.own_steps.OwnSteps.push.Goals.{in-Put, in_default}

pub overflow_add-insertions : goal.overflow_add-insertions
overflow_add-insertions g c =
    omega (arith, few_inserted c.self.inside.steps.items, c.self.invariant.0, c.self.inside.steps.ok.0, c.self.inside.steps.ok.1, c.self.inside.steps.small)

pub invariant_of-self-2 : goal.invariant_of-self-2
invariant_of-self-2 g c =
    let entry = entry_of c.args.step c.args.items in
    let more : length (inserted c.push.new.self.items) ≡ length (inserted c.self.inside.steps.items) + length (flat_map inserted_by (event_at entry)) =
    inserted_with c.self.inside.steps.items c.push.new.self.items entry c.in-Ok.ensures.items in (
      elim c.match-step.branch [
        | in-Put w ↦ omega (arith, more, c.self.invariant.0, w.insertions-is, one_inserted c.args.step c.args.items w.in-Put.is)
        | in_default w ↦ omega (arith, more, c.self.invariant.0, w.insertions-is, none_inserted c.args.step c.args.items w.in_default.not-Put w.in_default.not-Flush)
      ],
      work_with c.self.inside.steps.items c.push.new.self.items entry c.self.inside.work c.next_work-work.result c.in-Ok.ensures.items c.self.invariant.1 (c.next_work-work.ensures c.args.items),
    )
