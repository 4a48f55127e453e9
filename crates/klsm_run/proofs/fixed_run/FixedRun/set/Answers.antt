use Rattle.std.proofs.Common.{◌∙◌, ap, length}
use Rattle.klsm_run.specs.Stores.{spanned}
use Rattle.klsm_run.proofs.StoreLemmas.{lent_whole, first_written, fixed_written}
use Rattle.klsm_run.proofs.fixed_run.FixedRun.set.Goals as goal

pub invariant_of-self : goal.invariant_of-self
invariant_of-self g c = fixed_written g.row.CAP _ _ _ _ (c.put_first.ensures.len ∙ ap length c.as_mut_slice.ensures.value) c.put_first.ensures.items c.first-self-inside.ensures.start c.first-self-inside.ensures.end
    c.requires.ascending c.requires.room c.self.invariant.full c.self.invariant.capacity_in_range

pub returns : goal.returns
returns g c =
    ap (spanned c.first-self-inside.result) (lent_whole _ _ (c.put_first.ensures.len ∙ ap length c.as_mut_slice.ensures.value))
    ∙ first_written _ _ _ c.put_first.ensures.items c.first-self-inside.ensures.start c.first-self-inside.ensures.end
