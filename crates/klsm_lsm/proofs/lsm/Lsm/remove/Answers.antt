use Rattle.std.proofs.Common.{[], ap, ◌∙◌, length, subst, ◌<◌}
use Rattle.std.specs.List.{slice_get}
use Rattle.std.proofs.lemmas.Option.{get_or_from_slice_get}
use Rattle.klsm_lsm.proofs.lsm.Lsm.remove.Goals as goal

pub item_at-item-requires : goal.item_at-item-requires
item_at-item-requires g c =
    subst (λ b. c.args.index < length b) (get_or_from_slice_get c.args.self.now c.args.block _ [] c.block.ensures.block) c.requires.index

pub returns-clause-item : goal.returns-clause-item
returns-clause-item g c =
    ap (λ b. slice_get b c.args.index) (get_or_from_slice_get c.args.self.now c.args.block _ [] c.block.ensures.block) ∙ c.item_at-item.ensures
