use Rattle.std.proofs.Common.{◌∙◌, ◌∷◌, [], ap, refl, length}
use Rattle.klsm_run.specs.Content.{ShareNone}
use Rattle.klsm_run.specs.Stores.{spanned}
use Rattle.klsm_run.proofs.ApartLemmas.{apart_from_single, apart_if_sharing_none, ascending_sorted}
use Rattle.klsm_run.proofs.StoreLemmas.{lent_whole, fixed_lent}
use Rattle.klsm_run.proofs.fixed_run.FixedRun.insert.Goals as goal

pub invariant_of-self : goal.invariant_of-self
invariant_of-self g c =
    let apart : ShareNone (spanned c.self.inside.span c.self.inside.items.items) (c.args.item ∷ []) = rw c.self.view_is (apart_from_single _ _ c.requires.new) in
    fixed_lent g.row.CAP _ _ _ (c.unite.ensures.len ∙ ap length c.as_mut_slice.ensures.value) c.unite.ensures.within
    (rw (c.unite.ensures.united, c.as_mut_slice.ensures.value) (ascending_sorted _ _ c.self.invariant.ascending (tt, tt) (apart_if_sharing_none _ (c.args.item ∷ []) apart)))
    c.self.invariant.full c.self.invariant.capacity_in_range

pub returns : goal.returns
returns g c =
    ap (spanned c.unite.new.self) (lent_whole _ _ (c.unite.ensures.len ∙ ap length c.as_mut_slice.ensures.value))
    ∙ (c.unite.ensures.united ∙ rw (c.as_mut_slice.ensures.value, c.self.view_is) refl)
