use Rattle.std.proofs.Common.{ap, length, arith, ◌∙◌, slice_index_or}
use Rattle.klsm_pile.specs.Labels.{FrontState}
use Rattle.klsm_pile.proofs.LabelLemmas.{labelled_length, labelled_at}
use Rattle.klsm_pile.proofs.front.Front.at.Goals as goal

pub index-requires : goal.index-requires
index-requires g c =
    omega (arith, c.requires, c.self.inside.items.ok.0, labelled_length c.self.inside.items.items c.self.inside.levels.items c.self.invariant, ap (λ (f : FrontState). length f.items) c.self.view_is)

pub index-requires-2 : goal.index-requires-2
index-requires-2 g c =
    omega (arith, c.requires, c.self.inside.levels.ok.0, c.self.invariant, labelled_length c.self.inside.items.items c.self.inside.levels.items c.self.invariant, ap (λ (f : FrontState). length f.items) c.self.view_is)

pub returns : goal.returns
returns g c =
    labelled_at c.args.index c.self.inside.items.items c.self.inside.levels.items _ _ _ c.self.invariant
    (omega (arith, c.requires, labelled_length c.self.inside.items.items c.self.inside.levels.items c.self.invariant, ap (λ (f : FrontState). length f.items) c.self.view_is))
    c.index.ensures c.index-2.ensures
    ∙ ap (λ (f : FrontState). slice_index_or f.items c.args.index (record { item = c.index.result.now; level = c.index-2.result.now })) c.self.view_is
