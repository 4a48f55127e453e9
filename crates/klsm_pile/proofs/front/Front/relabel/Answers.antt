use Rattle.std.proofs.Common.{ap, ◌∙◌, ◌≡◌, map}
use Rattle.std.specs.List.{refill}
use Rattle.klsm_pile.specs.Labels.{FrontState, labelled}
use Rattle.klsm_pile.specs.Settling.{relabelled, regrouped_level}
use Rattle.klsm_pile.proofs.LabelLemmas.{labelled_map}
use Rattle.klsm_pile.proofs.front.Front.relabel.Goals as goal

pub returns-clause-items : goal.returns-clause-items
returns-clause-items g c =
    let f = regrouped_level c.args.low c.args.high c.args.to in
    let levels = c.self.inside.levels.items in
    let back : refill c.self.inside.levels.len levels c.relabel_all.new.levels ≡ map f levels =
    c.make_contiguous.ensures.writes_back c.relabel_all.new.levels (c.relabel_all.auto.levels ∙ c.make_contiguous.ensures.len) ∙ (c.relabel_all.ensures ∙ ap (map f) c.make_contiguous.ensures.value) in
    ap (labelled c.self.inside.items.items) back
    ∙ (labelled_map c.args.low c.args.high c.args.to c.self.inside.items.items levels ∙ ap (λ (s : FrontState). relabelled c.args.low c.args.high c.args.to s.items) c.self.view_is)
