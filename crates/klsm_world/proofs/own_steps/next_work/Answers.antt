use Rattle.std.proofs.Common.{sym, ap}
use Rattle.klsm_world.specs.Kept.{entry_of}
use Rattle.klsm_schedules.specs.OwnSteps.{work_after}
use Rattle.klsm_world.proofs.lemmas.kept.WorkLemmas.{same_work}
use Rattle.klsm_world.proofs.own_steps.next_work.Goals as goal

pub returns-in-Take : goal.returns-in-Take
returns-in-Take c items = ap (λ step. work_after c.args.work (entry_of step items)) (sym c.in-Take.is)

pub returns-in-Early : goal.returns-in-Early
returns-in-Early c items = ap (λ step. work_after c.args.work (entry_of step items)) (sym c.in-Early.is)

pub returns-in-Nothing : goal.returns-in-Nothing
returns-in-Nothing c items = ap (λ step. work_after c.args.work (entry_of step items)) (sym c.in-Nothing.is)

pub returns-in-Marked : goal.returns-in-Marked
returns-in-Marked c items = ap (λ step. work_after c.args.work (entry_of step items)) (sym c.in-Marked.is)

pub returns-in_default : goal.returns-in_default
returns-in_default c items =
    same_work c.args.work c.args.step items c.in_default.not-Take c.in_default.not-Early c.in_default.not-Nothing c.in_default.not-Marked
