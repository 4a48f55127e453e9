use Rattle.std.proofs.Common.{rules, ◌∙◌}
use Rattle.klsm_tool.proofs.worker.Worker.run.Goals as goal

pub answer_all-gave_up-requires-clause-picks : goal.answer_all-gave_up-requires-clause-picks
answer_all-gave_up-requires-clause-picks g c = search rules

pub returns : goal.returns
returns g c =
    let told = c.answer_all-gave_up.ensures in let ready = c.requires.ready in let same = told.same in
    record {
      of = (same.2 ∙ ready.of.0, same.1 ∙ ready.of.1);
      number = same.0;
      passed = search rules;
      works = told.works;
      course = λ none. (c.answer_all-gave_up.new.picker, told.course none);
    }

pub answer_all-gave_up-requires-clause-no_steps : goal.answer_all-gave_up-requires-clause-no_steps
answer_all-gave_up-requires-clause-no_steps g c κs within = c.requires.ready.no_steps
