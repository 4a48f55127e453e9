use Rattle.std.proofs.Common.{ap, length, arith, ◌++◌, ◌∷◌, [], ◌∙◌}
use Rattle.klsm_pile.specs.Labels.{FrontState}
use Rattle.klsm_pile.proofs.LabelLemmas.{labelled_length, labelled_end}
use Rattle.klsm_pile.proofs.front.Front.push.Goals as goal

pub push_back_reserved-requires : goal.push_back_reserved-requires
push_back_reserved-requires g c =
    omega (
      arith,
      c.requires,
      c.self.inside.items.ok.0,
      labelled_length c.self.inside.items.items c.self.inside.levels.items c.self.invariant,
      ap (λ (f : FrontState). length f.items) c.self.view_is,
      ap (λ (f : FrontState). f.capacity) c.self.view_is,
    )

pub push_back_reserved-requires-2 : goal.push_back_reserved-requires-2
push_back_reserved-requires-2 g c =
    omega (
      arith,
      c.requires,
      c.self.inside.levels.ok.0,
      c.self.invariant,
      labelled_length c.self.inside.items.items c.self.inside.levels.items c.self.invariant,
      ap (λ (f : FrontState). length f.items) c.self.view_is,
      ap (λ (f : FrontState). f.capacity) c.self.view_is,
    )

pub returns-clause-items : goal.returns-clause-items
returns-clause-items g c =
    rw (c.push_back_reserved.ensures.items, c.push_back_reserved-2.ensures.items) (
    labelled_end c.self.inside.items.items c.self.inside.levels.items c.args.item c.args.level c.self.invariant
    ∙ ap (λ (f : FrontState). f.items ++ record { item = c.args.item; level = c.args.level } ∷ []) c.self.view_is
    )
