use Rattle.std.proofs.Common.{[], ap, sym, ◌∙◌}
use Rattle.std.specs.List.{slice_get}
use Rattle.std.proofs.lemmas.Option.{get_or_from_slice_get}
use Rattle.klsm_lsm.proofs.lsm.Lsm.least.Goals as goal

pub returns : goal.returns
returns g c =
    let block = get_or_from_slice_get c.args.self.now c.in_ok-block.block _ [] c.block.ensures.block in
    sym c.item_at.ensures ∙ (ap (λ xs. slice_get xs 0) (sym block) ∙ c.in_ok-block.ensures.1)
