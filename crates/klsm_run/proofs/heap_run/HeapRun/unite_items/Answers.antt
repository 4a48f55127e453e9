use Rattle.std.proofs.Common.{◌∙◌, ap, sym, refl, length, arith}
use Rattle.klsm_run.specs.Content.{ShareNone}
use Rattle.klsm_run.specs.Stores.{spanned, HeapState}
use Rattle.klsm_run.proofs.ApartLemmas.{apart_if_sharing_none, ascending_sorted}
use Rattle.klsm_run.proofs.StoreLemmas.{heap_whole, heap_lent, spanned_kept}
use Rattle.klsm_run.proofs.heap_run.HeapRun.unite_items.Goals as goal

pub unite-requires-clause-ascending : goal.unite-requires-clause-ascending
unite-requires-clause-ascending g c =
    let kept = spanned_kept c.self.inside.span c.self.inside.items.items c.fill_up.new.store.items c.self.invariant.span_in c.fill_up.ensures.kept in
    rw (c.as_mut_slice.ensures.value, kept) c.self.invariant.ascending

pub unite-requires-clause-apart : goal.unite-requires-clause-apart
unite-requires-clause-apart g c =
    let kept = spanned_kept c.self.inside.span c.self.inside.items.items c.fill_up.new.store.items c.self.invariant.span_in c.fill_up.ensures.kept in
    rw (c.as_mut_slice.ensures.value, kept, ap (λ (s : HeapState). s.items) c.self.view_is) c.requires.apart

pub invariant_of-self : goal.invariant_of-self
invariant_of-self g c =
    let kept = spanned_kept c.self.inside.span c.self.inside.items.items c.fill_up.new.store.items c.self.invariant.span_in c.fill_up.ensures.kept in
    let apart : ShareNone (spanned c.self.inside.span c.self.inside.items.items) c.args.joining.now = rw (ap (λ (s : HeapState). s.items) c.self.view_is) c.requires.apart in
    heap_lent _ _ _ _ _ _ (ap length (sym c.as_mut_slice.ensures.value) ∙ c.as_mut_slice.ensures.len) (c.unite.ensures.len ∙ ap length c.as_mut_slice.ensures.value) c.unite.ensures.within
    (rw (c.unite.ensures.united, c.as_mut_slice.ensures.value, kept) (ascending_sorted _ _ c.self.invariant.ascending c.requires.ascending (apart_if_sharing_none _ _ apart)))
    (omega (arith, c.fill_up.ensures.filled, c.min-end.ensures, c.self.invariant.filled)) (omega (arith, c.self.invariant.reserved, c.fill_up.ensures.reserved)) c.self.invariant.at_most c.self.invariant.whole_or_power

pub returns-clause-union : goal.returns-clause-union
returns-clause-union g c =
    let kept = spanned_kept c.self.inside.span c.self.inside.items.items c.fill_up.new.store.items c.self.invariant.span_in c.fill_up.ensures.kept in
    ap (spanned c.unite.new.self) (heap_whole _ _ _ (ap length (sym c.as_mut_slice.ensures.value) ∙ c.as_mut_slice.ensures.len) (c.unite.ensures.len ∙ ap length c.as_mut_slice.ensures.value))
    ∙ (c.unite.ensures.united ∙ rw (c.as_mut_slice.ensures.value, kept, ap (λ (s : HeapState). s.items) c.self.view_is) refl)
