use Rattle.std.proofs.Common.{ap, length, arith, ◌≡◌, ◌<◌, ◌∙◌, slice_index_or, false, true, deque_len}
use Rattle.std.specs.List.{remove}
use Rattle.klsm_pile.specs.Labels.{FrontState}
use Rattle.klsm_pile.proofs.LabelLemmas.{labelled_length, labelled_at, labelled_remove}
use Rattle.klsm_pile.proofs.front.Front.remove.Goals as goal

pub unreachable-requires : goal.unreachable-requires
unreachable-requires g c =
    let within : c.args.index < deque_len c.self.inside.items =
    omega (arith, c.requires, c.self.inside.items.ok.0, labelled_length c.self.inside.items.items c.self.inside.levels.items c.self.invariant, ap (λ (f : FrontState). length f.items) c.self.view_is) in
    let bad : false ≡ true = c.in_default.ensures.variant.1 within in cc

pub unreachable-requires-in_default-remove : goal.unreachable-requires-in_default-remove
unreachable-requires-in_default-remove g c =
    let within : c.args.index < deque_len c.self.inside.levels =
    omega (arith, c.requires, c.self.inside.levels.ok.0, c.self.invariant, labelled_length c.self.inside.items.items c.self.inside.levels.items c.self.invariant, ap (λ (f : FrontState). length f.items) c.self.view_is) in
    let bad : false ≡ true = c.in_default-remove.ensures.variant.1 within in cc

pub returns-clause-value : goal.returns-clause-value
returns-clause-value g c =
    let there : c.args.index < length c.self.inside.items.items =
    omega (arith, c.requires, labelled_length c.self.inside.items.items c.self.inside.levels.items c.self.invariant, ap (λ (f : FrontState). length f.items) c.self.view_is) in
    labelled_at c.args.index c.self.inside.items.items c.self.inside.levels.items _ _ _ c.self.invariant there c.in-Some.ensures.value c.in-Some-remove.ensures.value
    ∙ ap (λ (f : FrontState). slice_index_or f.items c.args.index (record { item = c.in-Some.item; level = c.in-Some-remove.level })) c.self.view_is

pub returns-clause-items : goal.returns-clause-items
returns-clause-items g c =
    rw (c.in-Some.ensures.items, c.in-Some-remove.ensures.items) (
    labelled_remove c.args.index c.self.inside.items.items c.self.inside.levels.items c.self.invariant ∙ ap (λ (f : FrontState). remove f.items c.args.index) c.self.view_is
    )

pub returns-clause-len : goal.returns-clause-len
returns-clause-len g c =
    let same : length c.remove.new.self.items ≡ length c.remove-2.new.self.items =
    omega (
      arith,
      c.self.invariant,
      c.self.inside.items.ok.0,
      c.self.inside.levels.ok.0,
      c.in-Some.ensures.len,
      c.in-Some-remove.ensures.len,
      c.remove.new.self.ok.0,
      c.remove-2.new.self.ok.0,
    ) in
    omega (
      arith,
      c.self.inside.items.ok.0,
      c.in-Some.ensures.len,
      c.remove.new.self.ok.0,
      labelled_length _ _ same,
      labelled_length c.self.inside.items.items c.self.inside.levels.items c.self.invariant,
      ap (λ (f : FrontState). length f.items) c.self.view_is,
    )
