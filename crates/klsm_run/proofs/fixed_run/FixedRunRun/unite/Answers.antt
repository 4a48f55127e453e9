use Rattle.std.proofs.Common.{◌∙◌, ap, refl, length}
use Rattle.klsm_run.specs.Content.{ShareNone}
use Rattle.klsm_run.specs.Stores.{spanned}
use Rattle.klsm_run.proofs.ApartLemmas.{apart_if_sharing_none, ascending_sorted}
use Rattle.klsm_run.proofs.StoreLemmas.{lent_whole, fixed_lent}
use Rattle.klsm_run.proofs.fixed_run.FixedRunRun.unite.Goals as goal

pub unite-requires-clause-apart : goal.unite-requires-clause-apart
unite-requires-clause-apart g c = rw (c.as_mut_slice.ensures.value, c.as_slice.ensures.items, c.self.view_is) c.requires.apart

pub invariant_of-self : goal.invariant_of-self
invariant_of-self g c =
    let apart : ShareNone (spanned c.self.inside.span c.self.inside.items.items) c.args.other.now = rw c.self.view_is c.requires.apart in
    fixed_lent g.row.CAP _ _ _ (c.unite.ensures.len ∙ ap length c.as_mut_slice.ensures.value) c.unite.ensures.within
    (rw (c.unite.ensures.united, c.as_mut_slice.ensures.value, c.as_slice.ensures.items) (ascending_sorted _ _ c.self.invariant.ascending c.as_slice.ensures.ascending (apart_if_sharing_none _ _ apart)))
    c.self.invariant.full c.self.invariant.capacity_in_range

pub returns-clause-union : goal.returns-clause-union
returns-clause-union g c =
    ap (spanned c.unite.new.self) (lent_whole _ _ (c.unite.ensures.len ∙ ap length c.as_mut_slice.ensures.value))
    ∙ (c.unite.ensures.united ∙ rw (c.as_mut_slice.ensures.value, c.as_slice.ensures.items, c.self.view_is) refl)
