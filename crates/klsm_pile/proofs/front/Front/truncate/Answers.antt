use Rattle.std.proofs.Common.{ap, take, ◌∙◌}
use Rattle.klsm_pile.specs.Labels.{FrontState}
use Rattle.klsm_pile.proofs.LabelLemmas.{labelled_take}
use Rattle.klsm_pile.proofs.front.Front.truncate.Goals as goal

pub returns-clause-items : goal.returns-clause-items
returns-clause-items g c =
    rw (c.truncate.ensures.items, c.truncate-2.ensures.items) (
    labelled_take c.args.keep c.self.inside.items.items c.self.inside.levels.items ∙ ap (λ (f : FrontState). take c.args.keep f.items) c.self.view_is
    )
