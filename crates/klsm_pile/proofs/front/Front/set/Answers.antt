use Rattle.std.proofs.Common.{ap, length, arith, slice_set, ◌∙◌}
use Rattle.klsm_pile.specs.Labels.{FrontState}
use Rattle.klsm_pile.proofs.LabelLemmas.{labelled_length, labelled_set}
use Rattle.klsm_pile.proofs.front.Front.set.Goals as goal

pub index_mut-requires : goal.index_mut-requires
index_mut-requires g c =
    omega (arith, c.requires, c.self.inside.items.ok.0, labelled_length c.self.inside.items.items c.self.inside.levels.items c.self.invariant, ap (λ (f : FrontState). length f.items) c.self.view_is)

pub index_mut-requires-2 : goal.index_mut-requires-2
index_mut-requires-2 g c =
    omega (arith, c.requires, c.self.inside.levels.ok.0, c.self.invariant, labelled_length c.self.inside.items.items c.self.inside.levels.items c.self.invariant, ap (λ (f : FrontState). length f.items) c.self.view_is)

pub returns-clause-items : goal.returns-clause-items
returns-clause-items g c =
    labelled_set c.args.index c.self.inside.items.items c.self.inside.levels.items c.args.fetched c.self.invariant
    ∙ ap (λ (f : FrontState). slice_set f.items c.args.index c.args.fetched) c.self.view_is
